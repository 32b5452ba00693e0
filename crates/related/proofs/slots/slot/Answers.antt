-- `slot` meets its contract: 255 has place 16, any other number its own.
use Rattle.std.proofs.Common.{rules, tests}
use Rattle.related.specs.Slots.{slot_of}
use Rattle.related.proofs.slots.slot.Goals as goal

pub returns-then-number-eq255 : goal.returns-then-number-eq255
unfolding slot_of
returns-then-number-eq255 c = search (rules, tests)

pub returns-else-number-eq255 : goal.returns-else-number-eq255
unfolding slot_of
returns-else-number-eq255 c = search (rules, tests)
