-- `can_meet` meets its contract: 0 fits both clauses, or a value of clause i does, or one of clause j.
use Rattle.std.proofs.Common.{rules, tests}
use Rattle.related.specs.Related.{meetable}
use Rattle.related.proofs.clauses.ContextClauses.can_meet.Goals as goal

pub returns-then-some_value_fits : goal.returns-then-some_value_fits
unfolding meetable
returns-then-some_value_fits c = search (rules, tests)

pub returns-else-some_value_fits : goal.returns-else-some_value_fits
unfolding meetable
returns-else-some_value_fits c = search (rules, tests)
