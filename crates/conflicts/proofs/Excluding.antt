-- Exclusion records read one by one: the bytes of one against its fields in the table, and what each says.
use Prim.Native.Nat.{ℕ, ◌+◌, ◌*◌, ◌<◌, ◌≤◌}
use mathlib.Core.Bool.{Bool, true, false, ◌||◌, cond}
use mathlib.Core.Path.{◌≡◌, refl, sym, ap, ◌∙◌}
use mathlib.Core.List.{List, [], ◌++◌, append_assoc}
use native.Mathlib.Omega.{arith}
use native.Mathlib.Nat.{pos_of_ne-zero}
use borrow.Author.Tests.{eqb-false}
use lib.Dec.{eqb, lit<}
use lib.ListN.{length, length-append, get_or, get_or-append, take, drop, replicate}
use Rattle.std.proofs.lemmas.List.{get_or-append-add, take-append-drop, length-take-le, length-drop}
use Rattle.folds.specs.Below.{any_below}
use Rattle.folds.specs.Sets.{in_set}
use Rattle.folds.proofs.Bools.{clash}
use Rattle.folds.proofs.Tests.{any_at, any_each, any_none, any_next}
use Rattle.reader.specs.Tables.{exclusions, record_count}
use Rattle.reader.specs.Rules.{exclusion_bad, exclusions_bad}
use Rattle.reader.proofs.Accepted.{exclusion_fine}
use Rattle.reader.specs.Fields.{exclusion_kind, exclusion_first, exclusion_second}
use Rattle.conflicts.specs.declared.exclusions.Exclusion.{Exclusion}
use Rattle.conflicts.specs.declared.exclusions.Exclusion.TheVariants.{Roles, Permissions}
use Rattle.conflicts.specs.Conflicts.{excludes, excluded}
use Rattle.conflicts.specs.Exclusions.{exclusion_of}
use Rattle.conflicts.specs.Rows.{Excluded}
use Rattle.conflicts.proofs.Bits.{empty_sets}

-- bytes that say what record e of the table x says
pub record RecordOf (bytes x : List ℕ) (e : ℕ) : Type 0 where
  pub kind : exclusion_kind bytes 0 ≡ exclusion_kind x e
  pub first : exclusion_first bytes 0 ≡ exclusion_first x e
  pub second : exclusion_second bytes 0 ≡ exclusion_second x e

-- the three bytes behind e records are those of record e
pub record_at : (before bytes after : List ℕ) {x : List ℕ} {e : ℕ} → x ≡ before ++ (bytes ++ after) →
    length before ≡ 3 * e → length bytes ≡ 3 → RecordOf bytes x e
record_at before bytes after {x} {e} are place size =
    let none : 3 * e + 0 ≡ 3 * e = omega arith in
    record {
      kind = byte 0 (lit< tt) ∙ ap (λ k. get_or x k 0) none;
      first = byte 1 (lit< tt);
      second = byte 2 (lit< tt);
    }
  where
    byte : (k : ℕ) → k < 3 → get_or bytes k 0 ≡ get_or x (3 * e + k) 0
    byte k l =
        sym (ap (λ b. get_or b (3 * e + k) 0) are
        ∙ ap (λ n. get_or (before ++ (bytes ++ after)) (n + k) 0) (sym place)
        ∙ get_or-append-add before (bytes ++ after) k 0 ∙ get_or-append bytes after 0 k (omega arith))

-- and so are those cut out of the table
pub record_cut : (x : List ℕ) (e n : ℕ) → n ≡ 3 → 3 * e + 3 ≤ length x →
    RecordOf (take n (drop (3 * e) x)) x e
record_cut x e n size within =
    let left = length-drop (3 * e) x in
    let whole =
    sym (take-append-drop (3 * e) x)
    ∙ ap (λ b. take (3 * e) x ++ b) (sym (take-append-drop n (drop (3 * e) x))) in
    record_at (take (3 * e) x) (take n (drop (3 * e) x)) (drop n (drop (3 * e) x)) whole
    (length-take-le (3 * e) x (omega arith)) (length-take-le n (drop (3 * e) x) (omega arith) ∙ size)

module _ {bytes x : List ℕ} {e : ℕ} (of : RecordOf bytes x e) where
  pub says_same : exclusion_of bytes 0 ≡ exclusion_of x e
  says_same = rw (of.kind, of.first, of.second)

  excludes_same : (p q : ℕ) → excludes bytes p q 0 ≡ excludes x p q e
  unfolding excludes
  excludes_same p q = rw (of.kind, of.first, of.second)

  -- a record of a table that passed the check passes it alone
  pub fine_alone : (R P : ℕ) → length bytes ≡ 3 → e < record_count exclusions x → exclusions_bad R P x ≡ false →
      exclusions_bad R P bytes ≡ false
  unfolding exclusions_bad exclusion_bad
  fine_alone R P size l fine =
      any_each (exclusion_bad R P bytes) (record_count exclusions bytes)
      (λ i m. let first : i ≡ 0 = omega (arith, size) in
      rw (first, of.kind, of.first, of.second) (any_at (exclusion_bad R P x) _ fine e l))

-- what is known of a record read as roles, or as permissions
abbrev firsts : Exclusion → ℕ
firsts (Roles a b) = a
firsts (Permissions a b) = a

abbrev seconds : Exclusion → ℕ
seconds (Roles a b) = b
seconds (Permissions a b) = b

abbrev are_roles : Exclusion → Bool
are_roles (Roles a b) = true
are_roles (Permissions a b) = false

module _ (x : List ℕ) (e : ℕ) where
  pub says_roles : {r s : ℕ} → exclusion_of x e ≡ Roles r s →
      (eqb (exclusion_kind x e) 0 ≡ true) × (r ≡ exclusion_first x e) × (s ≡ exclusion_second x e)
  says_roles = by (eqb (exclusion_kind x e) 0)
    where
      by : {a b r s : ℕ} (t : Bool) → cond t (Roles a b) (Permissions a b) ≡ Roles r s →
          (t ≡ true) × (r ≡ a) × (s ≡ b)
      by true h = (refl, ap firsts (sym h), ap seconds (sym h))
      by false h = clash false (ap are_roles h) refl

  pub says_permissions : {p q : ℕ} → exclusion_of x e ≡ Permissions p q →
      (eqb (exclusion_kind x e) 0 ≡ false) × (p ≡ exclusion_first x e) × (q ≡ exclusion_second x e)
  says_permissions = by (eqb (exclusion_kind x e) 0)
    where
      by : {a b p q : ℕ} (t : Bool) → cond t (Roles a b) (Permissions a b) ≡ Permissions p q →
          (t ≡ false) × (p ≡ a) × (q ≡ b)
      by true h = clash true refl (ap are_roles h)
      by false h = (refl, ap firsts (sym h), ap seconds (sym h))

  -- the kind of a record of permissions that passed the check is 1
  pub kind_1 : (R P : ℕ) → exclusions_bad R P x ≡ false → e < record_count exclusions x →
      eqb (exclusion_kind x e) 0 ≡ false → exclusion_kind x e ≡ 1
  kind_1 R P fine l other =
      let low = (exclusion_fine R P x e fine l).kind_le in
      let some = eqb-false (exclusion_kind x e) 0 other in
      omega (arith, pos_of_ne-zero some)

-- what the loop knows where `rest` is left to add: the sets have what the records before it say
pub record AddedYet (x sets rest : List ℕ) : Type 0 where
  pub before : List ℕ
  pub count : ℕ
  pub size : length before ≡ 3 * count
  pub whole : x ≡ before ++ rest
  pub are : (s t : ℕ) → in_set (get_or sets s 0) t ≡ any_below count (excludes x s t)

pub none_added : (x : List ℕ) → AddedYet x (replicate {A = ℕ} 16 0) x
none_added x = record {
  before = [];
  count = 0;
  size = refl;
  whole = refl;
  are = λ s t. empty_sets 16 s t ∙ sym (any_none (excludes x s t));
}

module _ {x sets rest : List ℕ} (yet : AddedYet x sets rest) where
  module _ (bytes after : List ℕ) (are : rest ≡ bytes ++ after) (size : length bytes ≡ 3) where
    split : x ≡ yet.before ++ (bytes ++ after)
    split = yet.whole ∙ ap (λ r. yet.before ++ r) are

    -- the next record
    pub next_record : RecordOf bytes x yet.count
    next_record = record_at yet.before bytes after split yet.size size

    longer : length (yet.before ++ bytes) ≡ 3 * (yet.count + 1)
    longer = length-append yet.before bytes ∙ omega (arith, yet.size, size)

    pub next_within : yet.count < record_count exclusions x
    next_within =
        let all = ap length split ∙ length-append yet.before (bytes ++ after) in
        let left = length-append bytes after in
        omega (arith, yet.size, size)

    pub one_added : {sets' : List ℕ} →
        ((s t : ℕ) → in_set (get_or sets' s 0) t ≡ (in_set (get_or sets s 0) t || excludes bytes s t 0)) →
        AddedYet x sets' after
    one_added with = record {
      before = yet.before ++ bytes;
      count = yet.count + 1;
      size = longer;
      whole = split ∙ sym (append_assoc yet.before bytes after);
      are = λ s t. with s t ∙ rw (excludes_same next_record s t, yet.are s t, any_next);
    }

  pub all_added : length rest < 3 → Excluded x sets
  unfolding excluded
  all_added short =
      let all = ap length yet.whole ∙ length-append yet.before rest in
      let end : yet.count ≡ record_count exclusions x = omega (arith, yet.size) in
      record { permission = λ p q m n. rw end at (yet.are p q) }
