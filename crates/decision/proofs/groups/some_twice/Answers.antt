-- `some_twice` meets its contract: it looks for an entry whose user stands before it.
use Rattle.std.proofs.Common.{rules, tests, length, ◌/◌}
use Rattle.folds.proofs.Chains.{any_of_range}
use Rattle.decision.specs.Groups.{stands_before, some_twice}
use Rattle.decision.proofs.groups.some_twice.Goals as goal

pub returns : goal.returns
unfolding some_twice
returns c =
    any_of_range (stands_before c.args.g.now) (length c.args.g.now / 2) _ _ _ (cc)
    (λ x b q k. search (rules, tests)) c.any.ensures.ran
