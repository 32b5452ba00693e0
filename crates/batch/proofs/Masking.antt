-- The masks of the permissions asked for, and a permission's condition, told by them.
use Prim.Native.Nat.{ℕ, ◌^◌, ◌<◌, ◌≤◌}
use mathlib.Core.Bool.{Bool, true, false, ◌&&◌, ◌||◌, not, and_assoc}
use mathlib.Core.Path.{◌≡◌, refl, sym, ap, ◌∙◌}
use mathlib.Core.List.{List, [], ◌∷◌}
use native.Mathlib.Omega.{arith}
use borrow.Author.Tests.{eqb-true, ltb-true}
use lib.Bits.{bit_and, or_zero_l}
use lib.Dec.{eqb, ltb}
use lib.ListN.{length, get_or}
use Rattle.folds.specs.Below.{all_below}
use Rattle.folds.specs.Sets.{in_set}
use Rattle.folds.proofs.Bools.{and_left}
use Rattle.folds.proofs.Sets.{in_and, in_set_lem, in_set_below, set_lt}
use Rattle.folds.proofs.Tests.{all_at, any_same}
use Rattle.reader.specs.Tables.{clauses, role_count, permission_count, record_count, table_of}
use Rattle.reader.specs.Fields.{clause_permission}
use Rattle.reader.specs.Rules.{refusal_of}
use Rattle.reader.proofs.Accepted.{accepted, accepted_frame, clause_fine}
use Rattle.reader.proofs.Frame.{permissions_le}
use Rattle.decision.specs.Conditions.{role_num, clause_holds, clause_of_holds, permission_holds}
use Rattle.masks.specs.declared.asked.Asked.{Asked}
use Rattle.masks.specs.Clauses.{clauses_of, met, NarrowedAll}
use Rattle.masks.specs.Sets.{SetsFor}
use Rattle.masks.proofs.Apart.{clause_apart}
use Rattle.masks.proofs.Made.{checked}
use Rattle.masks.proofs.Telling.{some_in, done, in_sets}
use Rattle.batch.specs.Asked.{clauses_asked, MasksOf}

module _ (k : List ℕ) (p i : ℕ) (l : i < record_count clauses k) where
  -- a clause is one of a permission
  clause_in : in_set (clauses_of k p) i ≡ eqb (clause_permission k i) p
  unfolding clauses_of
  clause_in = in_set_lem (λ i. eqb (clause_permission k i) p) (record_count clauses k) i l

  -- and then one of those of a set with the permission
  asked_in : (asked : ℕ) → in_set asked p ≡ true → eqb (clause_permission k i) p ≡ true →
      in_set (clauses_asked k asked) i ≡ true
  unfolding clauses_asked
  asked_in asked h e =
      in_set_lem (λ i. in_set asked (clause_permission k i)) (record_count clauses k) i l
      ∙ ap (in_set asked) (eqb-true (clause_permission k i) p e)
      ∙ h

module _ {b : List ℕ} {asked : ℕ} {entries sums sets : List ℕ} (masks : MasksOf b asked entries sums sets)
    (p n s v : ℕ) (h : in_set asked p ≡ true) (few : n < 7) (low : s < 256) (below : v < 2 ^ role_count b) where
  abbrev k : List ℕ
  k = table_of b clauses

  abbrev own : ℕ
  own = clauses_of k p

  abbrev both : ℕ
  both = bit_and own (get_or entries n 0)

  abbrev met_by : ℕ
  met_by = bit_and (get_or sums s 0) (get_or sets v 0)

  -- a clause of the permission that is in all masks is one that holds
  holds_at : (i : ℕ) → i < record_count clauses k →
      in_set (bit_and both met_by) i ≡ clause_of_holds k p n s v i
  holds_at i l =
      in_and both met_by i
      ∙ rw (in_and own (get_or entries n 0) i, in_and (get_or sums s 0) (get_or sets v 0) i, clause_in k p i l)
      (by (eqb (clause_permission k i) p) refl)
    where
      by : (t : Bool) → eqb (clause_permission k i) p ≡ t →
          ((t && in_set (get_or entries n 0) i) && (in_set (get_or sums s 0) i && in_set (get_or sets v 0) i))
          ≡ (t && clause_holds k n s v i)
      by false e = refl
      by true e =
          let all = asked_in k p i l asked h e in
          rw (done masks.entries_met n i few, done masks.sums_met s i low, masks.sets_met v i below, all)
          (sym (and_assoc (met k i 0 n) (met k i 1 s)
          (met k i 2 (role_num v) && all_below 8 (λ r. in_set v r || met k i 3 r)))
          ∙ sym (clause_apart k i n s v masks.table l))

  -- so the masks tell whether its condition holds
  pub told : not (eqb (bit_and both met_by) 0) ≡ permission_holds k p n s v
  unfolding permission_holds clauses_of
  told =
      let c = record_count clauses k in
      some_in c (bit_and both met_by) (λ i e.
      let first = and_left (in_set both i) (in_set met_by i) (sym (in_and both met_by i) ∙ e) in
      let is_own = and_left (in_set own i) (in_set (get_or entries n 0) i)
      (sym (in_and own (get_or entries n 0) i) ∙ first) in
      in_set_below c own i (set_lt (λ i. eqb (clause_permission k i) p) c) is_own)
      ∙ any_same (in_set (bit_and both met_by)) (clause_of_holds k p n s v) c holds_at

-- the clauses of an accepted base fit 64 bits, and are of permissions below 32
pub clauses_fit : (b : List ℕ) → refusal_of b ≡ 0 → {k : List ℕ} → k ≡ table_of b clauses →
    (length k ≤ 1024) × ((i : ℕ) → i < record_count clauses k → clause_permission k i < 32)
clauses_fit b ok {k} is = (
  rw is (checked b ok).short,
  λ i l.
      let fine = clause_fine (role_count b) (permission_count b) k i (rw is (accepted b ok).clauses) l in
      let low = fine.permission in
      let few = permissions_le b (accepted_frame b ok) in
      omega (arith, low, few),
)

abbrev ones : List ℕ
ones = 1 ∷ 1 ∷ 1 ∷ 1 ∷ 1 ∷ 1 ∷ 1 ∷ 1 ∷ []

-- eight weights of 1 are above 0
heavy : (r : ℕ) → r < 8 → 0 < get_or ones r 0
unfolding all_below
heavy r l = ltb-true 0 (get_or ones r 0) (all_at (λ r. ltb 0 (get_or ones r 0)) 8 refl r l)

-- the masks of the clauses of all permissions asked for, made by such weights
pub masks_made : {b : List ℕ} {asked all : ℕ} {k : List ℕ} {met : Asked} {count roles : ℕ} {sums sets : List ℕ} →
    refusal_of b ≡ 0 → k ≡ table_of b clauses → all ≡ clauses_asked k asked → count ≡ 256 → roles ≡ role_count b →
    NarrowedAll k all 0 count met sums → SetsFor all met.numbers met.roles ones 0 roles sets →
    MasksOf b asked met.entries sums sets
masks_made {b} ok k_is all_is size roles_is narrowed marked =
    let narrow = rw (all_is, k_is, size) at narrowed in
    let mark = rw (all_is, k_is, roles_is) at marked in
    record {
      table = checked b ok;
      entries_met = narrow.entries;
      sums_met = narrow.sums;
      sets_met = λ v i below. rw (or_zero_l v) at (in_sets narrow mark v i below (λ r l h. heavy r l));
    }
