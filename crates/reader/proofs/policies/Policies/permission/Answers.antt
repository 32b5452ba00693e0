-- The table passed the check, so its permission is below 16.
use Rattle.std.proofs.Common.{ap}
use Rattle.reader.specs.Fields.{policy_permission}
use Rattle.reader.proofs.Accepted.{policy_fine}
use Rattle.reader.proofs.policies.Policies.permission.Goals as goal

pub returns : goal.returns
returns c =
    let fine = policy_fine 8 16 _ c.args.i c.self.invariant.0 (rw c.self.view_is c.requires) in
    (ap (λ a. policy_permission a c.args.i) c.self.view_is, fine.permission)
