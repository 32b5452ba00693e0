use Rattle.std.proofs.Common.{arith}
use Rattle.masks.proofs.Made.{checked}
use Rattle.batch.proofs.Masking.{clauses_fit, masks_made}
use Rattle.batch.proofs.permissions.masks_of.Goals as goal

pub clauses_asked-all-requires : goal.clauses_asked-all-requires
clauses_asked-all-requires c = clauses_fit c.args.base.now c.part-k.ensures.accepted c.part-k.ensures.table

pub of-requires : goal.of-requires
of-requires c = rw (c.part-k.ensures.table) (checked c.args.base.now c.part-k.ensures.accepted)

pub returns : goal.returns
returns c =
    let (size, narrowed) = rw c.of.ensures at c.clauses_met-met.ensures in
    let long = c.sets_for.array_long.0 in
    masks_made c.part-k.ensures.accepted c.part-k.ensures.table c.clauses_asked-all.ensures.0 (omega arith)
    c.role_count-roles.ensures.0 narrowed c.sets_for.ensures
