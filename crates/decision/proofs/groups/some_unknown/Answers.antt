-- `some_unknown` meets its contract: an entry is told by its user and its role.
use Rattle.std.proofs.Common.{rules, tests, length, ◌/◌}
use Rattle.folds.proofs.Chains.{any_of_range}
use Rattle.decision.specs.Groups.{unknown_at, some_unknown}
use Rattle.decision.proofs.groups.some_unknown.Goals as goal

pub returns : goal.returns
unfolding some_unknown
returns c =
    any_of_range (unknown_at c.args.users c.args.roles c.args.g.now) (length c.args.g.now / 2) _ _ _ (cc)
    (λ x b q k. search (rules, tests)) c.any.ensures.ran
