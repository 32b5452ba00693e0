-- `length_refused` meets its contract: its tests are those of the definition, in the same order.
use Rattle.std.proofs.Common.{rules, tests}
use Rattle.decision.specs.Groups.{length_refused}
use Rattle.decision.proofs.groups.length_refused.Goals as goal

pub returns-then-g-ne0 : goal.returns-then-g-ne0
unfolding length_refused
returns-then-g-ne0 c = search (rules, tests)

pub returns-else-g-ne0 : goal.returns-else-g-ne0
unfolding length_refused
returns-else-g-ne0 c = search (rules, tests)
