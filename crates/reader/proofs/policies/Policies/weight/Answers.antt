-- The table passed the check, so its weight is at most 5.
use Rattle.std.proofs.Common.{ap}
use Rattle.reader.specs.Fields.{policy_weight}
use Rattle.reader.proofs.Accepted.{policy_fine}
use Rattle.reader.proofs.policies.Policies.weight.Goals as goal

pub returns : goal.returns
returns c =
    let fine = policy_fine 8 16 _ c.args.i c.self.invariant.0 (rw c.self.view_is c.requires) in
    (ap (λ a. policy_weight a c.args.i) c.self.view_is, fine.weight_le)
