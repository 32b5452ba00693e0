-- The records of the conflicts found.
use Rattle.std.specs.Prelude.{ℕ, Bool, false, ◌&&◌, ◌||◌, List, [], ◌∷◌, eqb}
use Rattle.conflicts.specs.declared.rows.Conflicts.{Conflicts}
use Rattle.conflicts.specs.Kinds.{kind_number}
use Rattle.conflicts.specs.Rows.{rows_records}

-- those of one kind
abbrev pub records_of : Conflicts → List ℕ
records_of c = rows_records (kind_number c.kind) c.rows c.firsts

-- the record (kind, first, second) stands in a list of records of 3 bytes
unfoldable pub listed : ℕ → ℕ → ℕ → List ℕ → Bool
listed kind first second [] = false
listed kind first second (x ∷ []) = false
listed kind first second (x ∷ y ∷ []) = false
listed kind first second (x ∷ y ∷ z ∷ rest) =
    (eqb x kind && (eqb y first && eqb z second)) || listed kind first second rest
