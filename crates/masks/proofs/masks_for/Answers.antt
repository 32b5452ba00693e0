use Rattle.std.proofs.Common.{rules}
use native.Mathlib.Nat.{le_trans}
use Rattle.masks.proofs.Made.{set_counted, masks_made}
use Rattle.masks.proofs.masks_for.Goals as goal

pub sets_for-requires : goal.sets_for-requires
sets_for-requires c =
    let ready = c.requires in
    (le_trans ready.end_le ready.roles_le, set_counted ready)

pub returns : goal.returns
returns c =
    let (size, narrowed) = rw c.of.ensures at c.clauses_met-asked.ensures in
    masks_made c.requires c.args.masks.now.sums (search rules) (search rules) size narrowed c.sets_for.ensures
    c.sets_below.ensures c.joined-reached.ensures c.rows_for.ensures
