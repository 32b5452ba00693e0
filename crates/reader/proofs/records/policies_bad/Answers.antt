use Rattle.std.proofs.Common.{rules, tests, length, ◌/◌}
use Rattle.folds.proofs.Chains.{any_of_range}
use Rattle.reader.specs.Rules.{policy_bad, policies_bad}
use Rattle.reader.proofs.records.policies_bad.Goals as goal

pub returns : goal.returns
unfolding policies_bad
returns c =
    any_of_range (policy_bad c.args.numbers.roles c.args.numbers.permissions c.args.a.now) (length c.args.a.now / 8)
    _ _ _ (cc) (λ x b q k. search (rules, tests)) c.any.ensures.ran
