-- `register_refused` meets its contract: its tests are those of the definition, in the same order.
use Rattle.std.proofs.Common.{rules, tests, arith, length, ◌/◌, ◌∙◌}
use Rattle.std.proofs.lemmas.Grind.{common_steps}
use Rattle.std.proofs.lemmas.Bool.Decides.{nat_tests}
use Rattle.folds.proofs.Chains.{any_of_range}
use Rattle.vouch.specs.Register.{statement_bad, register_refused}
use Rattle.vouch.proofs.register.register_refused.Goals as goal

pub returns-then-register-gt2048 : goal.returns-then-register-gt2048
unfolding register_refused
returns-then-register-gt2048 c = search (rules, tests)

pub returns-else-register-gt2048 : goal.returns-else-register-gt2048
unfolding register_refused
returns-else-register-gt2048 c =
    any_of_range (statement_bad c.args.users c.args.permissions c.args.register.now) (length c.args.register.now / 8)
    _ _ _ (cc) (λ x b q k. search (rules, tests)) c.any.ensures.ran
    ∙ grind (arith, nat_tests, common_steps)
