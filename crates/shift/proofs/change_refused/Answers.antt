-- `change_refused` meets its contract: its tests are those of the definition.
use Rattle.std.proofs.Common.{rules, tests}
use Rattle.shift.specs.Shift.{change_refused}
use Rattle.shift.proofs.change_refused.Goals as goal

pub returns-then-count-policy : goal.returns-then-count-policy
unfolding change_refused
returns-then-count-policy c = search (rules, tests)

pub returns-else-count-policy : goal.returns-else-count-policy
unfolding change_refused
returns-else-count-policy c = search (rules, tests)
