-- Each operator's range, of plain numbers.
use Rattle.std.proofs.Common.{◌≡◌, ℕ, Option, None, arith}
use Rattle.std.specs.Option.{unwrap_or}
use Rattle.weights.proofs.Ranges.{above, below, from, upto, equal, unequal}
use Rattle.weights.proofs.operators.range_of.Goals as goal

-- no number is left out
none : {but : Option ℕ} → but ≡ None → unwrap_or but 256 ≡ 256
none e = rw e

pub returns-in-0 : goal.returns-in-0
returns-in-0 c = above (omega arith) (none c.from_to.ensures.2) (omega arith) (omega arith) (omega arith)

pub returns-in-1 : goal.returns-in-1
returns-in-1 c = below (omega arith) (none c.from_to-in-1.ensures.2) (omega arith) (omega arith) (omega arith)

pub returns-in-2 : goal.returns-in-2
returns-in-2 c = from (omega arith) (none c.from_to-in-2.ensures.2) (omega arith) (omega arith) (omega arith)

pub returns-in-3 : goal.returns-in-3
returns-in-3 c = upto (omega arith) (none c.from_to-in-3.ensures.2) (omega arith) (omega arith) (omega arith)

pub returns-in-4 : goal.returns-in-4
returns-in-4 c = equal (omega arith) (none c.from_to-in-4.ensures.2) (omega arith) (omega arith) (omega arith)

pub returns-in-5 : goal.returns-in-5
returns-in-5 c = unequal (omega arith) (omega arith)
