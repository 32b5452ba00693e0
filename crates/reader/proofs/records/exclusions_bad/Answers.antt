use Rattle.std.proofs.Common.{rules, tests, length, ◌/◌}
use Rattle.folds.proofs.Chains.{any_of_range}
use Rattle.reader.specs.Rules.{exclusion_bad, exclusions_bad}
use Rattle.reader.proofs.records.exclusions_bad.Goals as goal

pub returns : goal.returns
unfolding exclusions_bad
returns c =
    any_of_range (exclusion_bad c.args.numbers.roles c.args.numbers.permissions c.args.x.now) (length c.args.x.now / 3)
    _ _ _ (cc) (λ x b q k. search (rules, tests)) c.any.ensures.ran
