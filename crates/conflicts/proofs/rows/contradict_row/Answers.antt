-- `contradict_row` meets its contract: no policy up to i comes behind i.
use Rattle.std.proofs.Common.{arith, rules}
use borrow.Author.Tests.{le-ltb}
use Rattle.conflicts.specs.Rows.{contradict_by}
use Rattle.conflicts.proofs.rows.contradict_row.Goals as goal

pub returns : goal.returns
returns c =
    let a = c.args in
    let (is, few) = c.count-end.ensures.count in
    rw (← is)
    (c.row.ensures (contradict_by a.rows.now a.a.now a.i) (λ j r l m k. search rules)
    (λ j l. rw (le-ltb a.i j (omega arith))))
