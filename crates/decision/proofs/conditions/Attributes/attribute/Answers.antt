-- `attribute` meets its contract: its arms are those of the definition.
use Rattle.std.proofs.Common.{rules, tests}
use Rattle.decision.specs.Conditions.{attribute}
use Rattle.decision.proofs.conditions.Attributes.attribute.Goals as goal

pub returns-in-0 : goal.returns-in-0
unfolding attribute
returns-in-0 c = search (rules, tests)

pub returns-in-1 : goal.returns-in-1
unfolding attribute
returns-in-1 c = search (rules, tests)

pub returns-in-2 : goal.returns-in-2
unfolding attribute
returns-in-2 c = search (rules, tests)

pub returns-in_default : goal.returns-in_default
unfolding attribute
returns-in_default c = search (rules, tests)
