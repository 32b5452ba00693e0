-- The kinds of conflict.
use Rattle.std.specs.Prelude.{ℕ}
use Rattle.conflicts.specs.declared.rows.Kind.{Kind}
use Rattle.conflicts.specs.declared.rows.Kind.TheVariants.{Contradiction, Overlap, Holder}

-- a kind's number, as it stands first in a record
abbrev pub kind_number : Kind → ℕ
kind_number Contradiction = 1
kind_number Overlap = 2
kind_number Holder = 3
