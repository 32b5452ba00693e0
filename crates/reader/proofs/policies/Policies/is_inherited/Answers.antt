-- The table passed the check, so its type is 0 or 1.
use Rattle.std.proofs.Common.{eqb, ap}
use Rattle.reader.specs.Fields.{policy_type}
use Rattle.reader.proofs.Accepted.{policy_fine}
use Rattle.reader.proofs.policies.Policies.is_inherited.Goals as goal

pub returns : goal.returns
returns c =
    let fine = policy_fine 8 16 _ c.args.i c.self.invariant.0 (rw c.self.view_is c.requires) in
    (ap (λ a. eqb (policy_type a c.args.i) 1) c.self.view_is, rw c.self.view_is at fine.type_le)
