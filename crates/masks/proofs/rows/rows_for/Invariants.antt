-- Each turn makes one row more.
use Rattle.std.proofs.Common.{◌+◌, ◌*◌, ◌<◌, get_or, ℕ}
use Rattle.masks.specs.Rows.{RowFor}
use Rattle.masks.proofs.rows.rows_for.Given as goal

abbrev pub invariant-loop-n : goal.invariant-loop-n
invariant-loop-n l =
    (n : ℕ) → n < l.n → RowFor l.entries (l.placed.count + n) l.reached l.sums
    (l.placed.sum + n * l.weighed.light) (l.placed.sum + n * l.weighed.heavy + 1) (get_or l.row-items n 0)
