-- The table read is the base's H, which passed the check.
use Rattle.reader.proofs.Frame.{roles_range}
use Rattle.reader.proofs.Accepted.{accepted}
use Rattle.weights.proofs.Chains.{hierarchy_wider}
use Rattle.weights.proofs.juniors_of_base.Goals as goal

pub juniors-requires : goal.juniors-requires
juniors-requires c =
    let fine = accepted _ c.part.ensures.accepted in
    rw c.part.ensures.table (hierarchy_wider _ _ (roles_range _ fine.frame).1 fine.hierarchy)
