-- Each turn looks at the days of one user more.
use Rattle.std.proofs.Common.{cond}
use Rattle.folds.proofs.Changing.{Changed}
use Rattle.reader.specs.Days.{out_of_days}
use Rattle.report.proofs.parts.keep_in_date.Given as goal

abbrev pub invariant-loop-u : goal.invariant-loop-u
invariant-loop-u l =
    Changed (λ u set. cond (out_of_days l.users l.at.date u) 0 set) l.u l.initial.set-items l.set-items
