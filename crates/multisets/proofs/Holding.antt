-- Tables of a value for each multiset, filled block by block.
use Prim.Native.Nat.{ℕ, suc, ◌+◌, ◌-◌, ◌<◌, ◌≤◌}
use mathlib.Core.Path.{◌≡◌, sym, ap, ◌∙◌}
use mathlib.Core.Logic.{⊎_elim}
use mathlib.Core.List.{List}
use native.Mathlib.Omega.{arith}
use native.Mathlib.Nat.{lt_of_lt_of_le, eq-or-lt_of_le}
use borrow.Author.Tests.{leb-true, leb-false, ltb-true, ltb-false}
use lib.Dec.{leb, ltb}
use lib.ListN.{length, get_or, set, length-set}
use lib.Seq.{get_or-set_same}
use Rattle.folds.proofs.Bools.{met_or_not}
use Rattle.multisets.specs.Ranks.{starts, first}
use Rattle.multisets.specs.Values.{Held, Written}
use Rattle.multisets.proofs.Blocks.{block, starts_le, starts_none, starts_empty}
use Rattle.multisets.proofs.Places.{first_more, first_le, first_0, first_1, place_lt, one_level}

module _ {d e : ℕ} (end : e ≤ d) {value : ℕ → ℕ → ℕ} {t : List ℕ} where
  -- the block of role r of level n + 1, where the blocks before it are made
  module _ {n r : ℕ} (held : Held d e value t (first d (suc n) + starts (suc n) r)) (few : n ≤ 5) (role : r < e) where
    abbrev here : ℕ
    here = first d (suc n) + starts (suc n) r

    -- it ends within the level
    pub block_place : here + starts n (suc r) ≤ first d 7
    block_place =
        let within = starts_le (suc n) (suc r) e role in
        let below = starts_le (suc n) e d end in
        let last = first_le d (suc (suc n)) 7 (omega arith) in
        omega (arith, block n r, first_more d (suc n))

    pub block_room : here + starts n (suc r) ≤ length t
    block_room = omega (arith, block_place, held.room)

    -- and behind the multisets of a role less
    pub block_apart : first d n + starts n (suc r) ≤ here
    block_apart = omega (arith, starts_le n (suc r) e role, starts_le n e d end, first_more d n)

    -- whose values are known
    pub block_reads : (j : ℕ) → j < starts n (suc r) → get_or t (first d n + j) 0 ≡ value n j
    block_reads j l =
        held.each n j (omega arith) (lt_of_lt_of_le l (starts_le n (suc r) e role)) (omega (arith, block_apart))

    -- written with the right values, it is made
    pub block_written : {count : ℕ} {g : ℕ → ℕ} {t' : List ℕ} → count ≡ starts n (suc r) → Written g here count t t' →
        ((j : ℕ) → j < starts n (suc r) → g j ≡ value (suc n) (starts (suc n) r + j)) →
        Held d e value t' (first d (suc n) + starts (suc n) (suc r))
    block_written {count} {g} {t'} is w right = record { room = rw w.size held.room; each = each }
      where
        each : (k l : ℕ) → k ≤ 6 → l < starts k e → first d k + l < first d (suc n) + starts (suc n) (suc r) →
            get_or t' (first d k + l) 0 ≡ value k l
        each k l six some below = ⊎_elim
            (λ b. let h = ltb-true _ _ b in w.before (first d k + l) h ∙ held.each k l six some h)
            (λ b. new (ltb-false _ _ b))
            (met_or_not (ltb (first d k + l) here))
          where
            new : here ≤ first d k + l → get_or t' (first d k + l) 0 ≡ value k l
            new h =
                let m = first d k + l - first d (suc n) in
                let next = starts_le (suc n) (suc r) e role in
                let low : m < starts (suc n) d = omega (arith, starts_le (suc n) e d end) in
                let same : first d k + l ≡ first d (suc n) + m = omega arith in
                let some_d = lt_of_lt_of_le some (starts_le k e d end) in
                let level : k ≡ suc n = one_level d k l (suc n) m some_d low same in
                let j = m - starts (suc n) r in
                let at : first d k + l ≡ here + j = omega arith in
                let is_l : l ≡ starts (suc n) r + j = (let z = ap (first d) level in omega arith) in
                let within : j < starts n (suc r) = omega (arith, block n r) in
                ap (λ (x : ℕ). get_or t' x 0) at ∙ w.here j (rw is within) ∙ right j within
                ∙ ap (value (suc n)) (sym is_l) ∙ ap (λ (i : ℕ). value i l) (sym level)

  -- before the first block of a level
  pub level_start : (n : ℕ) → Held d e value t (first d (suc n)) → Held d e value t (first d (suc n) + starts (suc n) 0)
  level_start n held =
      let f : first d (suc n) + starts (suc n) 0 ≡ first d (suc n) = rw (starts_none n) (omega arith) in
      rw f held

  -- after its last block: between the multisets of roles below e and the next level there are none of them
  pub level_end : (n : ℕ) → Held d e value t (first d n + starts n e) → Held d e value t (first d (suc n))
  level_end n held = record {
    room = held.room;
    each = λ k l few some below. ⊎_elim
        (λ a. held.each k l few some (nearer k l some (leb-true k n a)))
        (λ a. absurd (omega (arith, first_le d (suc n) k (leb-false k n a))))
        (met_or_not (leb k n));
  }
    where
      nearer : (k l : ℕ) → l < starts k e → k ≤ n → first d k + l < first d n + starts n e
      nearer k l some h = ⊎_elim
          (λ q. rw (← q) (omega arith))
          (λ b. omega (arith, place_lt d k l (lt_of_lt_of_le some (starts_le k e d end)), first_le d (suc k) n b))
          (eq-or-lt_of_le h)

-- the empty multiset
pub held_none : (d e : ℕ) (value : ℕ → ℕ → ℕ) (t : List ℕ) (x : ℕ) → e ≤ d → first d 7 ≤ length t → x ≡ value 0 0 →
    Held d e value (set t 0 x) (first d 1)
held_none d e value t x end room is = record {
  room = rw (length-set t 0 x) room;
  each = λ n m few some l.
      let a : first d n + m ≡ first d 0 + 0 = omega (arith, first_1 d, first_0 d) in
      let one : 0 < starts 0 d = rw (starts_empty d) (omega arith) in
      let b : n ≡ 0 = one_level d n m 0 0 (lt_of_lt_of_le some (starts_le n e d end)) one a in
      let c : m ≡ 0 = (let z = first_0 d in omega arith) in
      let f : first d 0 + 0 ≡ 0 = omega (arith, first_0 d) in
      rw (b, c, f, get_or-set_same t 0 x 0 (omega (arith, room, first_1 d, first_le d 1 7 (omega arith)))) is;
}
