use Rattle.std.proofs.Common.{rules, tests, length, ◌/◌}
use Rattle.folds.proofs.Chains.{any_of_range}
use Rattle.reader.specs.Rules.{user_bad, users_bad}
use Rattle.reader.proofs.users.users_bad.Goals as goal

pub returns : goal.returns
unfolding users_bad
returns c =
    any_of_range (user_bad c.args.roles c.args.users.now) (length c.args.users.now / 8) _ _ _ (cc)
    (λ x b q k. search (rules, tests)) c.any.ensures.ran
