-- `permission_holds` meets its contract: it looks for a clause of the permission that holds.
use Rattle.std.proofs.Common.{rules, tests, length, ◌/◌}
use Rattle.folds.proofs.Chains.{any_of_range}
use Rattle.decision.specs.Conditions.{clause_of_holds, permission_holds}
use Rattle.decision.proofs.conditions.permission_holds.Goals as goal

pub returns : goal.returns
unfolding permission_holds
returns c =
    any_of_range
    (clause_of_holds c.args.k.now c.args.permission c.args.attributes.entries c.args.attributes.sum
    c.args.attributes.roles)
    (length c.args.k.now / 16) _ _ _ (cc) (λ x b q k. search (rules, tests)) c.any.ensures.ran
