-- The sets of multisets of roles.
use Prim.Native.Nat.{ℕ, suc, ◌+◌, ◌^◌, ◌<◌, ◌≤◌}
use mathlib.Core.Bool.{Bool, true, false, cond, ◌||◌, or-false, or-true}
use mathlib.Core.Path.{◌≡◌, sym, ap, ◌∙◌}
use mathlib.Core.List.{List, [], ◌∷◌}
use native.Mathlib.Omega.{arith}
use borrow.Author.Tests.{lt-ltb, le-ltb, ne_eqb}
use lib.Bits.{bit_or, or_lt, or_comm}
use lib.Pow.{pow-lt, pow_pos}
use lib.Dec.{eqb, ltb, lit<}
use lib.ListN.{length}
use Rattle.folds.specs.Sets.{in_set, set_below}
use Rattle.folds.proofs.Sets.{in_set_lem, in_none, in_added, same_set, set_lt}
use Rattle.multisets.specs.Ranks.{starts, total, rank_of, Roles}
use Rattle.multisets.specs.Values.{sum_over, set_of, one_if, set_at}
use Rattle.folds.proofs.Numbers.{sum_tail}
use Rattle.multisets.proofs.Blocks.{total_none, total_block, total_le, rank_total}

one_more : (x : ℕ) (b : Bool) → ltb 0 (x + cond b 1 0) ≡ (ltb 0 x || b)
one_more x true = lt-ltb 0 (x + 1) (omega arith) ∙ sym (or-true (ltb 0 x))
one_more x false = let e : x + 0 ≡ x = omega arith in rw e (sym (or-false (ltb 0 x)))

module _ (n m : ℕ) where
  abbrev held : ℕ → Bool
  held k = ltb 0 (total (one_if k) n m)

  set_at_lt : set_at n m < 2 ^ 8
  unfolding set_at
  set_at_lt = set_lt held 8

  in_set_at : (k : ℕ) → k < 8 → in_set (set_at n m) k ≡ held k
  unfolding set_at
  in_set_at k l = in_set_lem held 8 k l

-- the set of a multiset with a largest role more
pub set_block : (n r j : ℕ) → r < 8 → j < starts n (suc r) →
    set_at (suc n) (starts (suc n) r + j) ≡ bit_or (set_at n j) (2 ^ r)
set_block n r j role some =
    let m = starts (suc n) r + j in
    let small = or_lt 8 _ (2 ^ r) (set_at_lt n j) (pow-lt role) in
    same_set 8 (set_at (suc n) m) (bit_or (set_at n j) (2 ^ r)) (set_at_lt (suc n) m) small
    (λ k l.
    in_set_at (suc n) m k l ∙ rw (total_block n r j role some (one_if k)) (one_more (total (one_if k) n j) (eqb r k))
    ∙ sym (in_added (set_at n j) r k ∙ ap (λ (b : Bool). b || eqb r k) (in_set_at n j k l)))

pub set_none_is : set_at 0 0 ≡ 0
set_none_is =
    same_set 8 (set_at 0 0) 0 (set_at_lt 0 0) (lit< tt)
    (λ k l. in_set_at 0 0 k l ∙ rw (total_none (one_if k) 0) (sym (in_none k)))

-- the set of a list has the roles of which there are some
in_set_of : (z : List ℕ) (k : ℕ) → in_set (set_of z) k ≡ ltb 0 (sum_over (one_if k) z)
in_set_of [] k = in_none k
in_set_of (r ∷ z) k =
    let e : one_if k r + sum_over (one_if k) z ≡ sum_over (one_if k) z + one_if k r = omega arith in
    rw (or_comm (2 ^ r) (set_of z))
    (in_added (set_of z) r k ∙ rw (in_set_of z k, e) (sym (one_more (sum_over (one_if k) z) (eqb r k))))

pub set_of_lt : (d : ℕ) (z : List ℕ) → Roles d z → set_of z < 2 ^ d
set_of_lt d [] h = pow_pos d
set_of_lt d (r ∷ z) h = or_lt d (2 ^ r) (set_of z) (pow-lt h.0) (set_of_lt d z h.1)

-- at the rank of a list's roles is their set
pub set_of_is : (z : List ℕ) → Roles 8 z → set_at (length z) (rank_of z) ≡ set_of z
set_of_is z h =
    same_set 8 (set_at (length z) (rank_of z)) (set_of z) (set_at_lt (length z) (rank_of z)) (set_of_lt 8 z h)
    (λ k l. in_set_at (length z) (rank_of z) k l ∙ rw (rank_total (one_if k) z h) (sym (in_set_of z k)))

-- the set of a multiset of roles below e has no others
pub set_at_low : (e n m : ℕ) → e ≤ 8 → m < starts n e → set_at n m < 2 ^ e
unfolding set_at set_below
set_at_low e n m most some =
    rw (sum_tail (λ k. cond (held n m k) (2 ^ k) 0) e 8 most (λ k low high. rw (none k low high))) (set_lt (held n m) e)
  where
    none : (k : ℕ) → e ≤ k → k < 8 → held n m k ≡ false
    none k low high =
        let z = total_le (one_if k) 0 e most (λ r l. rw (ne_eqb r k (λ q. omega arith)) (omega arith)) n m some in
        le-ltb 0 (total (one_if k) n m) (omega arith)
