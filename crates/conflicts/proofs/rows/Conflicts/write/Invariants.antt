-- The records of the first i rows are written.
use Rattle.conflicts.specs.Rows.{rows_records}
use Rattle.conflicts.proofs.Lists.{Wrote}
use Rattle.conflicts.proofs.rows.Conflicts.write.Given as goal

abbrev pub invariant-loop-i : goal.invariant-loop-i
invariant-loop-i l = Wrote l.fn.out l.at (rows_records l.kind l.self.rows l.i) l.out l.next
