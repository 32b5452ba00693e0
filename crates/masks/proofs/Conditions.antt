-- A condition strikes its clause out of the masks of one attribute, and leaves the others.
use Prim.Native.Nat.{ℕ, ◌+◌, ◌*◌, ◌<◌, ◌≤◌}
use mathlib.Core.Bool.{true}
use mathlib.Core.Path.{◌≡◌, refl}
use mathlib.Core.List.{List}
use native.Mathlib.Numerals.{add-one}
use native.Mathlib.Nat.{lt_of_lt_of_le}
use native.Mathlib.Omega.{arith}
use borrow.Author.Tests.{eq-eqb, ne_eqb}
use lib.ListN.{length}
use Rattle.folds.specs.Below.{all_below}
use Rattle.reader.specs.Tables.{clauses, record_count}
use Rattle.reader.specs.Fields.{clause_length, condition_attribute, condition_operator, condition_value}
use Rattle.reader.proofs.Accepted.{ConditionFine, clause_fine, record_within}
use Rattle.masks.specs.declared.asked.Asked.{Asked}
use Rattle.masks.specs.Clauses.{Checked, stands_to, lacks, met_at, met_below, met, Struck, StruckAll}
use Rattle.masks.proofs.Striking.{struck_none, struck_both, struck_as}

-- what a table K that passed the check says of its condition j of clause i
pub record Slot (k : List ℕ) (roles i j : ℕ) : Type 0 where
  pub whole : 16 * i + 16 ≤ length k
  pub short : length k ≤ 1024
  pub one_of : j < 4
  pub condition : ConditionFine roles (condition_attribute k i j) (condition_operator k i j) (condition_value k i j)

pub slot : {k : List ℕ} {i j : ℕ} → (t : Checked k) → i < record_count clauses k → j < clause_length k i
    → Slot k t.roles i j
slot {k} {i} {j} t h l =
    let f = clause_fine t.roles t.permissions k i t.fine h in
    record {
      whole = record_within clauses k i h;
      short = t.short;
      one_of = lt_of_lt_of_le l f.at_most;
      condition = f.condition j l;
    }

-- the fourth attribute
pub attribute_three : {a : ℕ} → a ≤ 3 → (a ≡ 0 → ⊥) → (a ≡ 1 → ⊥) → (a ≡ 2 → ⊥) → a ≡ 3
attribute_three l p q r = omega arith

module _ (k : List ℕ) (i j : ℕ) where
  -- a condition on another attribute is met
  pub off : (a : ℕ) → (condition_attribute k i j ≡ a → ⊥) → (x : ℕ) → met_at k i j a x ≡ true
  unfolding met_at
  off a d x = rw (ne_eqb (condition_attribute k i j) a d)

  -- one on this attribute is met as its operator says
  pub on : (a : ℕ) → a < 3 → condition_attribute k i j ≡ a
      → (x : ℕ) → stands_to (condition_operator k i j) (condition_value k i j) x ≡ met_at k i j a x
  unfolding met_at
  on a l e x = rw (e, eq-eqb a a refl, ne_eqb a 3 (λ q. omega arith))

  pub on_roles : condition_attribute k i j ≡ 3 → (x : ℕ) → lacks (condition_value k i j) x ≡ met_at k i j 3 x
  unfolding met_at
  on_roles q x = rw q

  module _ {others : ℕ} where
    -- so the masks of another attribute stay
    kept : {m : ℕ} {was : List ℕ} (a : ℕ) → (condition_attribute k i j ≡ a → ⊥) →
        Struck m (met_at k i j a) others was was
    kept a d = struck_none (λ x l. off a d x)

    -- and those of this one are struck out
    hit : {m : ℕ} {was masks : List ℕ} (a : ℕ) → a < 3 → condition_attribute k i j ≡ a
        → Struck m (stands_to (condition_operator k i j) (condition_value k i j)) others was masks
        → Struck m (met_at k i j a) others was masks
    hit a l q h = struck_as h (λ x m. on a l q x)

    module _ {count : ℕ} {was now : Asked} {sums : List ℕ} where
      pub on_entries : condition_attribute k i j ≡ 0
          → Struck 7 (stands_to (condition_operator k i j) (condition_value k i j)) others was.entries now.entries
          → now.numbers ≡ was.numbers → now.roles ≡ was.roles
          → StruckAll count (met_at k i j) others was sums now sums
      on_entries q h n r = record {
        entries = hit 0 (omega arith) q h;
        sums = kept 1 (λ d. omega arith);
        numbers = rw n (kept 2 (λ d. omega arith));
        roles = rw r (kept 3 (λ d. omega arith));
      }

      pub on_numbers : condition_attribute k i j ≡ 2
          → Struck 9 (stands_to (condition_operator k i j) (condition_value k i j)) others was.numbers now.numbers
          → now.entries ≡ was.entries → now.roles ≡ was.roles
          → StruckAll count (met_at k i j) others was sums now sums
      on_numbers q h e r = record {
        entries = rw e (kept 0 (λ d. omega arith));
        sums = kept 1 (λ d. omega arith);
        numbers = hit 2 (omega arith) q h;
        roles = rw r (kept 3 (λ d. omega arith));
      }

      pub on_set : condition_attribute k i j ≡ 3
          → Struck 8 (lacks (condition_value k i j)) others was.roles now.roles
          → now.entries ≡ was.entries → now.numbers ≡ was.numbers
          → StruckAll count (met_at k i j) others was sums now sums
      on_set q h e n = record {
        entries = rw e (kept 0 (λ d. omega arith));
        sums = kept 1 (λ d. omega arith);
        numbers = rw n (kept 2 (λ d. omega arith));
        roles = struck_as h (λ x m. on_roles q x);
      }

    pub on_sums : {count : ℕ} {asked : Asked} {sums s : List ℕ} → condition_attribute k i j ≡ 1
        → Struck count (stands_to (condition_operator k i j) (condition_value k i j)) others sums s
        → StruckAll count (met_at k i j) others asked sums asked s
    on_sums q h = record {
      entries = kept 0 (λ d. omega arith);
      sums = hit 1 (omega arith) q h;
      numbers = kept 2 (λ d. omega arith);
      roles = kept 3 (λ d. omega arith);
    }

-- one condition further
further : (k : List ℕ) (i j a : ℕ) {m others : ℕ} {was then now : List ℕ} → Struck m (met_below k i j a) others was then
    → Struck m (met_at k i j a) others then now → Struck m (met_below k i (j + 1) a) others was now
unfolding met_below all_below
further k i j a h t = struck_as (struck_both h t) (λ x l. rw add-one)

pub all_next : (k : List ℕ) (i j : ℕ) {count others : ℕ} {first was asked : Asked} {s₀ s s' : List ℕ}
    → StruckAll count (met_below k i j) others first s₀ was s
    → StruckAll count (met_at k i j) others was s asked s'
    → StruckAll count (met_below k i (j + 1)) others first s₀ asked s'
all_next k i j h t = record {
  entries = further k i j 0 h.entries t.entries;
  sums = further k i j 1 h.sums t.sums;
  numbers = further k i j 2 h.numbers t.numbers;
  roles = further k i j 3 h.roles t.roles;
}

-- at first nothing is struck out
pub all_none : (k : List ℕ) (i : ℕ) {count others : ℕ} {asked : Asked} {s : List ℕ}
    → StruckAll count (met_below k i 0) others asked s asked s
unfolding met_below all_below
all_none k i = record {
  entries = struck_none (λ x l. refl);
  sums = struck_none (λ x l. refl);
  numbers = struck_none (λ x l. refl);
  roles = struck_none (λ x l. refl);
}

-- all conditions
pub all_done : (k : List ℕ) (i j : ℕ) {count others : ℕ} {was asked : Asked} {s₀ s : List ℕ} → j ≡ clause_length k i
    → StruckAll count (met_below k i j) others was s₀ asked s → StruckAll count (met k i) others was s₀ asked s
unfolding met
all_done k i j q h = rw q at h
