use Rattle.std.proofs.Common.{arith, ◌+◌, ◌*◌, length}
use Rattle.folds.proofs.Lists.{stored}
use Rattle.masks.specs.Rows.{RowFor}
use Rattle.masks.proofs.RowMasks.{row_none, row_some, joined_part, rows_all, sums_within}
use Rattle.masks.proofs.rows.rows_for.Goals as goal
use Rattle.masks.proofs.rows.rows_for.Goals.{then-number-eq0, else-number-eq0}

pub loop-n-preserved : goal.loop-n-preserved
loop-n-preserved c =
    let size = c.loop-n.auto.row-items in
    let at = sums_within c.requires.0 c.loop-n.n (length c.args.sums.now) c.loop-n-test.true c.requires.1
    c.requires.2 in
    stored c.loop-n.row-items c.loop-n.n c.if-number-eq0.row
    (λ n row. RowFor c.args.entries.now (c.args.placed.count + n) c.args.reached c.args.sums.now
    (c.args.placed.sum + n * c.args.weighed.light)
    (c.args.placed.sum + n * c.args.weighed.heavy + 1) row) (omega arith) c.loop-n.invariant
    (elim c.if-number-eq0.branch [
      | then-number-eq0 w ↦ rw w.row-is (row_none w.if-number-eq0.true)
      | else-number-eq0 w ↦ rw w.row-is (row_some w.if-number-eq0.false
          (joined_part at.high (omega (arith, at.low)) c.joined-met.ensures))
    ])

pub returns : goal.returns
returns c = rows_all c.requires.0 c.loop-n.row-items c.loop-n.auto.row-items c.loop-n-test.false c.loop-n.invariant
