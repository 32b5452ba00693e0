-- `list_refused` meets its contract: its tests are those of the definition, in the same order.
use Rattle.std.proofs.Common.{rules, tests, arith, length, ◌∙◌}
use Rattle.std.proofs.lemmas.Grind.{common_steps}
use Rattle.std.proofs.lemmas.Bool.Decides.{nat_tests}
use Rattle.folds.proofs.Chains.{any_of_range}
use Rattle.resolution.specs.Resolution.{rule_refused, list_refused}
use Rattle.resolution.proofs.list_refused.Goals as goal

pub returns-then-list-gt3 : goal.returns-then-list-gt3
unfolding list_refused
returns-then-list-gt3 c = grind (arith, nat_tests, common_steps)

pub returns-else-list-gt3 : goal.returns-else-list-gt3
unfolding list_refused
returns-else-list-gt3 c =
    any_of_range (rule_refused c.args.list.now) (length c.args.list.now) _ _ _ (cc)
    (λ x b q k. search (rules, tests)) c.any.ensures.ran
    ∙ grind (arith, nat_tests, common_steps)
