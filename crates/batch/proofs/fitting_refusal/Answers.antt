-- `fitting_refusal` meets its contract: its tests are those of the definition, in the same order.
use Rattle.std.proofs.Common.{rules, tests}
use Rattle.batch.specs.Batch.{queries_refused}
use Rattle.batch.proofs.fitting_refusal.Goals as goal

pub returns-then-queries-ne0 : goal.returns-then-queries-ne0
unfolding queries_refused
returns-then-queries-ne0 c = search (rules, tests)

pub returns : goal.returns
unfolding queries_refused
returns c = search (rules, tests)
