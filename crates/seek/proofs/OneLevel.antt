-- A level tried: the place found, or that no entries of so many roles meet the row.
use Prim.Native.Nat.{ℕ, ◌+◌, ◌^◌, ◌<◌}
use mathlib.Core.Bool.{true, false, or-true}
use mathlib.Core.Path.{◌≡◌, refl, ◌∙◌}
use mathlib.Core.Logic.{⊎_elim}
use mathlib.Core.List.{List}
use native.Mathlib.Nat.{eq-zero-or-pos, le_refl, lt_irrefl}
use lib.Bits.{bit_and, bit_or, and_zero_r, or_lt}
use lib.ListN.{get_or}
use Rattle.folds.specs.Sets.{in_set}
use Rattle.folds.proofs.Bools.{clash}
use Rattle.folds.proofs.Sets.{in_or}
use Rattle.multisets.specs.Ranks.{starts, first}
use Rattle.multisets.specs.Rising.{entries_sum, entries_roles}
use Rattle.seek.specs.Search.{met_by, met_beside, met_at, FoundIn, Asked, TriedAt}
use Rattle.seek.proofs.ByPlace.{Made, place_meets, found_meets}

module _ (by_sum by_set : List ℕ) where
  pub tried_none : (row : ℕ) {sets w : List ℕ} {placed d n : ℕ} {ends from : List ℕ} → row ≡ 0 →
      TriedAt sets w placed d (met_by row by_sum by_set) n 3003 ends from
  tried_none row {w = w} {placed = placed} e = record {
    at_most = le_refl 3003;
    found = λ l. absurd (lt_irrefl 3003 l);
    none = λ q g many m.
        clash (met_by row by_sum by_set (placed + entries_sum w g) (entries_roles g)) m.met (rw e refl);
  }

module _ (front : ℕ) (by_sum by_set : List ℕ) where
  -- no clause is met by an empty row, nor by a set whose mask is empty
  pub beside_empty : (row sum set : ℕ) → row ≡ 0 → met_beside front row by_sum by_set sum set ≡ false
  beside_empty row sum set e = rw e refl

  set_empty : (row sum set : ℕ) → get_or by_set (bit_or front set) 0 ≡ 0 →
      met_beside front row by_sum by_set sum set ≡ false
  set_empty row sum set e = rw (e, and_zero_r (bit_and row (get_or by_sum sum 0))) refl

  -- so roles of a set that meets the row have weight
  met_heavy : (w : List ℕ) (end : ℕ) → Asked w by_set end → front < 2 ^ end → (row sum set : ℕ) →
      met_beside front row by_sum by_set sum set ≡ true → set < 2 ^ end → (r : ℕ) → r < 8 → in_set set r ≡ true →
      0 < get_or w r 0
  met_heavy w end asked small row sum set met low r role there = ⊎_elim
      (λ z.
      let all = or_lt end front set small low in
      let in_all = in_or front set r ∙ rw there (or-true (in_set front r)) in
      clash (met_beside front row by_sum by_set sum set) met
      (set_empty row sum set (asked.light (bit_or front set) r all role in_all z)))
      (λ h. h)
      (eq-zero-or-pos (get_or w r 0))

  pub tried_level : (row : ℕ) {sets w : List ℕ} {placed d e n x : ℕ} {ends from roles sums : List ℕ} →
      Made sets w placed d e n ends from roles sums → Asked w by_set e → front < 2 ^ e →
      FoundIn (met_at ends sums roles (met_beside front row by_sum by_set)) (first d n) (first d n + starts n e) x →
      TriedAt sets w placed d (met_beside front row by_sum by_set) n x ends from
  tried_level row {w = w} {e = e} {x = x} {ends = ends} {roles = roles} {sums = sums} made asked small f = record {
    at_most = f.at_most;
    found = λ l.
        let condition = met_beside front row by_sum by_set in
        let heavy = met_heavy w e asked small row in
        let (g, many, rises, met, bytes, back) = found_meets made condition x (f.low l) (f.high l) (f.met l) heavy in
        record { group = g; many = many; meets = record { rises = rises; met = met }; bytes = bytes; way = back.way };
    none = λ q g many m.
        let condition = met_beside front row by_sum by_set in
        let (y, low, high, met) = place_meets made condition g many asked.heavy m.rises m.met in
        clash (met_at ends sums roles condition y) met (f.none q y low high);
  }
