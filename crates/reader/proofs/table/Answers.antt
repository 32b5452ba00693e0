-- The base has no tables, or t is none of them: the part is empty.
use Rattle.std.proofs.Common.{◌∙◌}
use mathlib.Core.Bool.{and-false}
use borrow.Author.Tests.{ne_eqb, le-ltb}
use Rattle.reader.specs.Tables.{table_of}
use Rattle.reader.proofs.Results.{refusal_pos}
use Rattle.reader.proofs.table.Goals as goal
use Rattle.reader.proofs.table.Goals.{in_default-via-in-Ok+else-t-lt7, in_default-via-in_default}

pub returns-in_default : goal.returns-in_default
unfolding table_of
returns-in_default c =
    elim c.in_default.branch [
      | in_default-via-in-Ok+else-t-lt7 w ↦ rw (le-ltb _ _ w.if-t-lt7.false, and-false)
      | in_default-via-in_default w ↦ rw (ne_eqb _ 0 (λ e. refusal_pos _ (w.in_default.ensures.number ∙ e)))
    ]
