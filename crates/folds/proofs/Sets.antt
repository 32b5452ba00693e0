-- Laws of the sets of small numbers: their members, unions and intersections, and the set of those that pass a test.
use Prim.Native.Nat.{ℕ, zero, suc, ◌+◌, ◌*◌, ◌/◌, ◌%◌, ◌^◌, ◌<◌, ◌≤◌}
use mathlib.Core.Bool.{Bool, true, false, ◌&&◌, ◌||◌, not, cond, and-true, and-false, or-false}
use mathlib.Core.Path.{◌≡◌, refl, sym, ap, ap₂, ◌∙◌}
use native.Mathlib.Numerals.{add-one, one-add}
use native.Mathlib.Nat.{add_comm, one-mul, zero-mul, div-eq_of_lt, div-div-eq-div-mul, mod-one, mod-eq_of_lt, pow-succ'}
use native.Mathlib.Nat.{le_refl, lt_of_lt_of_le, lt_of_le_of_lt, lt_of_not-le, not-suc-le-zero}
use native.Mathlib.Omega.{arith}
use lib.Dec.{ltb, eqb, eqb-suc-suc, eqb-zero-suc, eqb-suc-zero, lit<}
use lib.Pow.{pow_pos, pow_mono, shl_exact, mod-pow-add}
use lib.Bits.{bit_or, bit_and, or_shr, or_mod, or_shifted_r, and_shr, and_mod, and_le_r, and_lt}
use lib.Count.{ones, ones_in, ones_cat}
use borrow.Author.Tests.{eqb-true, eqb-false, eq-eqb, ne_eqb, ltb-true, ltb-false}
use mathlib.Core.Logic.{⊎_elim}
use Rattle.folds.specs.Below.{count_below, any_below}
use Rattle.folds.specs.Sets.{in_set, set_below, contains}
use Rattle.folds.proofs.Bools.{and_left, same_test, clash, eqb_sym, met_or_not}
use Rattle.folds.proofs.Tests.{split, all_at, all_each, any_at, any_each}
use Rattle.folds.proofs.Numbers.{sum_none, sum_more, sum_same, count_none, count_more}

-- a set below 2 ^ n has nothing at n or above
pub in_set_high : (n s r : ℕ) → s < 2 ^ n → n ≤ r → in_set s r ≡ false
unfolding in_set
in_set_high n s r h l = rw (div-eq_of_lt (lt_of_lt_of_le h (pow_mono l)))

-- so what it has is below n
pub in_set_below : (n s r : ℕ) → s < 2 ^ n → in_set s r ≡ true → r < n
in_set_below n s r h e = lt_of_not-le (λ l. clash (in_set s r) e (in_set_high n s r h l))

-- the set 0 is empty
pub in_none : (r : ℕ) → in_set 0 r ≡ false
in_none r = in_set_high 0 0 r (lit< tt) (omega arith)

-- half of a set has each of its numbers one lower
pub in_half : (s r : ℕ) → in_set s (suc r) ≡ in_set (s / 2) r
unfolding in_set
in_half s r = rw (pow-succ', ← div-div-eq-div-mul)

-- the set of one number
pub in_one : (k r : ℕ) → in_set (2 ^ k) r ≡ eqb r k
unfolding in_set
in_one zero zero = refl
in_one zero (suc r) = rw (in_half, eqb-suc-zero) (in_none r)
in_one (suc k) zero = let e : 2 ^ suc k / 1 % 2 ≡ 0 = omega arith in rw (e, eqb-zero-suc k)
in_one (suc k) (suc r) = let e : 2 ^ suc k / 2 ≡ 2 ^ k = omega arith in rw (in_half, e, eqb-suc-suc) (in_one k r)

-- bit r of a set is 1 if r is in it, and otherwise 0
bit_at : (s r : ℕ) → s / 2 ^ r % 2 ≡ cond (in_set s r) 1 0
unfolding in_set
bit_at s r = by (s / 2 ^ r % 2) (omega arith)
  where
    by : (d : ℕ) → d < 2 → d ≡ cond (eqb d 1) 1 0
    by zero h = refl
    by (suc zero) h = refl
    by (suc (suc d)) h = absurd (omega arith)

-- an operation that works on each bit apart decides on r by the two bits at r
in_bitwise : (op : ℕ → ℕ → ℕ) → ((a b k : ℕ) → op a b / 2 ^ k ≡ op (a / 2 ^ k) (b / 2 ^ k))
    → ((a b k : ℕ) → op a b % 2 ^ k ≡ op (a % 2 ^ k) (b % 2 ^ k))
    → (a b r : ℕ) → in_set (op a b) r ≡ eqb (op (cond (in_set a r) 1 0) (cond (in_set b r) 1 0)) 1
unfolding in_set
in_bitwise op high low a b r =
    rw (high a b r, low (a / 2 ^ r) (b / 2 ^ r) 1) (ap₂ (λ x y. eqb (op x y) 1) (bit_at a r) (bit_at b r))

-- a union has what either set has
pub in_or : (a b r : ℕ) → in_set (bit_or a b) r ≡ (in_set a r || in_set b r)
in_or a b r = in_bitwise bit_or or_shr or_mod a b r ∙ table (in_set a r) (in_set b r)
  where
    table : (x y : Bool) → eqb (bit_or (cond x 1 0) (cond y 1 0)) 1 ≡ (x || y)
    table true true = refl
    table true false = refl
    table false true = refl
    table false false = refl

-- an intersection has what both sets have
pub in_and : (a b r : ℕ) → in_set (bit_and a b) r ≡ (in_set a r && in_set b r)
in_and a b r = in_bitwise bit_and and_shr and_mod a b r ∙ table (in_set a r) (in_set b r)
  where
    table : (x y : Bool) → eqb (bit_and (cond x 1 0) (cond y 1 0)) 1 ≡ (x && y)
    table true true = refl
    table true false = refl
    table false true = refl
    table false false = refl

-- 2 ^ n by a test b is the bit b shifted to n
shifted : (b : Bool) (n : ℕ) → cond b (2 ^ n) 0 ≡ cond b 1 0 * 2 ^ n
shifted true n = sym (one-mul (2 ^ n))
shifted false n = sym (zero-mul (2 ^ n))

-- as a set it has n at most
in_shifted : (b : Bool) (n r : ℕ) → in_set (cond b (2 ^ n) 0) r ≡ (b && eqb r n)
in_shifted true n r = in_one n r
in_shifted false n r = in_none r

-- a single bit has one 1 or none
ones_bit : (b : Bool) → ones (cond b 1 0) ≡ cond b 1 0
unfolding ones ones_in
ones_bit true = refl
ones_bit false = refl

module _ (p : ℕ → Bool) where
  -- no number is below 0
  pub set_none : set_below 0 p ≡ 0
  unfolding set_below
  set_none = sum_none (λ r. cond (p r) (2 ^ r) 0)

  -- one further, 2 ^ n is added where p holds of n
  set_more : (n : ℕ) → set_below (n + 1) p ≡ set_below n p + cond (p n) (2 ^ n) 0
  unfolding set_below
  set_more n = sum_more (λ r. cond (p r) (2 ^ r) 0) n

  -- so one bit stands above the set
  set_above : (n : ℕ) → set_below (suc n) p ≡ cond (p n) 1 0 * 2 ^ n + set_below n p
  set_above n = rw (← add-one n, set_more n, shifted (p n) n) (add_comm (set_below n p) (cond (p n) 1 0 * 2 ^ n))

  -- a set of numbers below n is below 2 ^ n
  pub set_lt : (n : ℕ) → set_below n p < 2 ^ n
  set_lt zero = rw set_none (lit< tt)
  set_lt (suc n) = rw set_above (by (p n) (set_lt n))
    where
      by : (b : Bool) → set_below n p < 2 ^ n → cond b 1 0 * 2 ^ n + set_below n p < 2 ^ suc n
      by true h = omega arith
      by false h = omega arith

  -- one further, the union is taken with n where p holds of n
  pub set_or : (n : ℕ) → set_below (n + 1) p ≡ bit_or (set_below n p) (cond (p n) (2 ^ n) 0)
  set_or n =
      rw (add-one, set_above n, shifted (p n) n)
      (sym (or_shifted_r (cond (p n) 1 0) n (set_below n p) (set_lt n)))

  -- a number below n is in the set exactly when p holds of it
  pub in_set_lem : (n r : ℕ) → r < n → in_set (set_below n p) r ≡ p r
  in_set_lem zero r h = elim (not-suc-le-zero h) [ ]
  in_set_lem (suc n) r h =
      rw (← add-one n, set_or n, in_or, in_shifted (p n) n r)
      (split h (λ q. rw (q, in_set_high n (set_below n p) n (set_lt n) (le_refl n), eq-eqb n n refl) (and-true (p n)))
      (λ l. rw (in_set_lem n r l, ne_eqb r n (λ e. omega arith), and-false) (or-false (p r))))

  -- a set has as many ones as members
  pub ones_set : (n : ℕ) → ones (set_below n p) ≡ count_below n p
  ones_set zero = rw (set_none, count_none) (ones_bit false)
  ones_set (suc n) =
      let joined = ones_cat n (cond (p n) 1 0) (set_below n p) (set_lt n) in
      rw (set_above n, joined, ones_bit, ones_set n, ← add-one n, count_more)
      (add_comm (cond (p n) 1 0) (count_below n p))

-- tests that agree below n have the same set
set_same : (p q : ℕ → Bool) (n : ℕ) → ((i : ℕ) → i < n → p i ≡ q i) → set_below n p ≡ set_below n q
unfolding set_below
set_same p q n h = sum_same (λ r. cond (p r) (2 ^ r) 0) (λ r. cond (q r) (2 ^ r) 0) n (λ i l. rw (h i l))

-- the members of a set below n are its n lowest bits
low_bits : (n a : ℕ) → set_below n (in_set a) ≡ a % 2 ^ n
low_bits zero a = set_none (in_set a) ∙ sym (mod-one a)
low_bits (suc n) a = rw (set_above (in_set a) n, low_bits n a, ← bit_at a n, ← one-add n) (sym (mod-pow-add a 1 n))

-- a set is the set of its members
pub set_of_members : (n a : ℕ) → a < 2 ^ n → set_below n (in_set a) ≡ a
set_of_members n a h = low_bits n a ∙ mod-eq_of_lt h

-- sets with the same members are one
pub same_set : (n a b : ℕ) → a < 2 ^ n → b < 2 ^ n → ((r : ℕ) → r < n → in_set a r ≡ in_set b r) → a ≡ b
same_set n a b h k e = sym (set_of_members n a h) ∙ set_same (in_set a) (in_set b) n e ∙ set_of_members n b k

-- s contains v exactly when v is their intersection
pub contains_and : (s v : ℕ) → v < 2 ^ 32 → eqb (bit_and s v) v ≡ contains s v
unfolding contains
contains_and s v h =
    let t : ℕ → Bool = λ r. not (in_set v r) || in_set s r in
    same_test _ _
    (λ e.
    all_each t 32
    (λ r l. held (in_set s r) (in_set v r) (sym (in_and s v r) ∙ ap (λ x. in_set x r) (eqb-true _ _ e))))
    (λ e. eq-eqb _ _
    (same_set 32 (bit_and s v) v (lt_of_le_of_lt (and_le_r s v) h) h
    (λ r l. in_and s v r ∙ kept (in_set s r) (in_set v r) (all_at t 32 e r l))))
  where
    held : (a b : Bool) → (a && b) ≡ b → (not b || a) ≡ true
    held a true e = and_left a true e
    held a false e = refl

    kept : (a b : Bool) → (not b || a) ≡ true → (a && b) ≡ b
    kept a true e = rw e
    kept a false e = and-false a

-- the set of one number, by a shift in w bits
pub one_shifted : (w r : ℕ) → r < w → (1 * 2 ^ r) % 2 ^ w ≡ 2 ^ r
one_shifted w r h = rw (shl_exact 1 r w (lit< tt) (omega arith)) (one-mul (2 ^ r))

-- every number is below its power of two
lt_power : (n : ℕ) → n < 2 ^ n
lt_power zero = lit< tt
lt_power (suc n) = omega (arith, lt_power n)

-- sets of whatever size with the same members are one
pub same_members : (a b : ℕ) → ((r : ℕ) → in_set a r ≡ in_set b r) → a ≡ b
same_members a b e =
    let h = lt_power (a + b) in
    same_set (a + b) a b (omega arith) (omega arith) (λ r l. e r)

-- a union of three sets, taken either way
pub or_assoc : (a b c : ℕ) → bit_or (bit_or a b) c ≡ bit_or a (bit_or b c)
or_assoc a b c =
    same_members (bit_or (bit_or a b) c) (bit_or a (bit_or b c)) (λ r. simp (in_or, mathlib.Core.Bool.or_assoc))

-- a set with one number more
pub in_added : (s k r : ℕ) → in_set (bit_or s (2 ^ k)) r ≡ (in_set s r || eqb k r)
in_added s k r = in_or s (2 ^ k) r ∙ ap (λ (b : Bool). in_set s r || b) (in_one k r ∙ eqb_sym r k)

-- what is in the set of those below n of which p holds
pub in_below : (p : ℕ → Bool) (n r : ℕ) → in_set (set_below n p) r ≡ (ltb r n && p r)
in_below p n r =
    ⊎_elim
    (λ e. rw e (in_set_lem p n r (ltb-true r n e)))
    (λ e. rw e (in_set_high n (set_below n p) r (set_lt p n) (ltb-false r n e)))
    (met_or_not (ltb r n))

-- the same, where p holds of no number from n on
pub in_whole : (p : ℕ → Bool) (n : ℕ) → ((k : ℕ) → n ≤ k → p k ≡ false) → (r : ℕ) → in_set (set_below n p) r ≡ p r
in_whole p n past r =
    ⊎_elim
    (λ e. in_below p n r ∙ rw e)
    (λ e. in_below p n r ∙ rw e (sym (past r (ltb-false r n e))))
    (met_or_not (ltb r n))

-- two sets of numbers below n have a common member exactly where their meet isn't empty
pub meet_some : (n a b : ℕ) → a < 2 ^ n → b < 2 ^ n →
    not (eqb (bit_and a b) 0) ≡ any_below n (λ r. in_set a r && in_set b r)
meet_some n a b ha hb =
    ⊎_elim
    (λ e. rw e (sym (any_each common n (λ r l. none (eqb-true (bit_and a b) 0 e) r))))
    (λ e. rw e (by (any_below n common) refl (eqb-false (bit_and a b) 0 e)))
    (met_or_not (eqb (bit_and a b) 0))
  where
    common : ℕ → Bool
    common r = in_set a r && in_set b r

    none : bit_and a b ≡ 0 → (r : ℕ) → common r ≡ false
    none e r = sym (in_and a b r) ∙ ap (λ x. in_set x r) e ∙ in_none r

    empty : any_below n common ≡ false → bit_and a b ≡ 0
    empty e =
        same_set n (bit_and a b) 0 (and_lt n a b ha hb) (pow_pos n)
        (λ r l. in_and a b r ∙ any_at common n e r l ∙ sym (in_none r))

    by : (t : Bool) → any_below n common ≡ t → (bit_and a b ≡ 0 → ⊥) → true ≡ t
    by true e d = refl
    by false e d = absurd (d (empty e))
