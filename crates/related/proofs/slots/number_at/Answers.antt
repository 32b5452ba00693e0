-- `number_at` meets its contract: place 16 has 255, any other its own number.
use Rattle.std.proofs.Common.{rules, tests}
use Rattle.related.specs.Slots.{number_at}
use Rattle.related.proofs.slots.number_at.Goals as goal

pub returns-then-s-eq16 : goal.returns-then-s-eq16
unfolding number_at
returns-then-s-eq16 c = search (rules, tests)

pub returns-else-s-eq16 : goal.returns-else-s-eq16
unfolding number_at
returns-else-s-eq16 c = search (rules, tests)
