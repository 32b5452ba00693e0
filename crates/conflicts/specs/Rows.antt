-- What the code computes on the way: rows of bits, a row for each kind and first.
use Rattle.std.specs.Prelude.{ℕ, ◌<◌, Bool, ◌&&◌, not, cond, ◌≡◌, List, [], ◌∷◌, ◌++◌, get_or, ltb, leb, eqb}
use Rattle.std.specs.Int.Bits.{bit_and}
use Rattle.folds.specs.Below.{join_below}
use Rattle.folds.specs.Sets.{in_set}
use Rattle.reader.specs.Tables.{hierarchy, users, contexts, policies, exclusions, role_count, table_of, record_count}
use Rattle.reader.specs.Fields.{policy_permission, policy_context}
use Rattle.weights.specs.Acting.{may_act}
use Rattle.related.specs.Slots.{slot_of}
use Rattle.conflicts.specs.Conflicts.{disagree, contradict, covers, excluded, overlap, holds_both}

-- the sets of roles that the policies cover
pub record Covers (h a sets : List ℕ) : Type 0 where
  pub small : (i : ℕ) → i < record_count policies a → get_or sets i 0 < 256
  pub policy : (i r : ℕ) → i < record_count policies a → r < 8 → in_set (get_or sets i 0) r ≡ covers h a i r

-- the sets of permissions that each permission excludes
pub record Excluded (x sets : List ℕ) : Type 0 where
  pub permission : (p q : ℕ) → p < 16 → q < 16 → in_set (get_or sets p 0) q ≡ excluded x p q

-- two context numbers are related by the rows of related slots
abbrev pub related_by : List ℕ → ℕ → ℕ → Bool
related_by rows x y =
    cond (leb (slot_of x) (slot_of y))
    (in_set (get_or rows (slot_of x) 0) (slot_of y))
    (in_set (get_or rows (slot_of y) 0) (slot_of x))

-- kind 1 by those rows
abbrev pub contradict_by : List ℕ → List ℕ → ℕ → ℕ → Bool
contradict_by rows a i j = ltb i j && (disagree a i j && related_by rows (policy_context a i) (policy_context a j))

-- kind 2 by the sets of excluded permissions and of covered roles
abbrev pub overlap_by : List ℕ → List ℕ → List ℕ → ℕ → ℕ → Bool
overlap_by apart covered a i j =
    ltb i j
    && (in_set (get_or apart (policy_permission a i) 0) (policy_permission a j)
    && not (eqb (bit_and (get_or covered i 0) (get_or covered j 0)) 0))

-- for each i below n, row i has the numbers below m of which p i holds
pub record Rows (n m : ℕ) (p : ℕ → ℕ → Bool) (rows : List ℕ) : Type 0 where
  pub row : (i j : ℕ) → i < n → in_set (get_or rows i 0) j ≡ (ltb j m && p i j)

-- the rows of kind 1 of a base, a row for each policy
abbrev pub Contradictions : List ℕ → List ℕ → Type 0
Contradictions b =
    Rows (record_count policies (table_of b policies)) (record_count policies (table_of b policies))
    (contradict (table_of b contexts) (table_of b policies))

-- the rows of kind 2, a row for each policy
abbrev pub Overlaps : List ℕ → List ℕ → Type 0
Overlaps b =
    Rows (record_count policies (table_of b policies)) (record_count policies (table_of b policies))
    (overlap (role_count b) (table_of b hierarchy) (table_of b exclusions) (table_of b policies))

-- the rows of kind 3, a row for each user
abbrev pub Holders : List ℕ → List ℕ → Type 0
Holders b =
    Rows (record_count users (table_of b users)) (record_count exclusions (table_of b exclusions))
    (holds_both may_act b)

-- the records of one row: kind and first, and each member as second
unfoldable pub row_records : ℕ → ℕ → ℕ → List ℕ
row_records kind first row = join_below 64 (λ j. cond (in_set row j) (kind ∷ first ∷ j ∷ []) [])

-- the records of the first n rows
unfoldable pub rows_records : ℕ → List ℕ → ℕ → List ℕ
rows_records kind rows n = join_below n (λ i. row_records kind i (get_or rows i 0))

-- the records of all kinds: n rows of kinds 1 and 2 each, m of kind 3
abbrev pub all_records : List ℕ → List ℕ → ℕ → List ℕ → ℕ → List ℕ
all_records one two n three m = rows_records 1 one n ++ (rows_records 2 two n ++ rows_records 3 three m)
