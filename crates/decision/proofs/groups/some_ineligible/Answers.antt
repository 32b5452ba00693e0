-- `some_ineligible` meets its contract: it looks for an entry whose user may not act in its role.
use Rattle.std.proofs.Common.{rules, tests, length, ◌/◌}
use mathlib.Core.Bool.{not}
use Rattle.weights.specs.Acting.{may_act}
use Rattle.folds.proofs.Chains.{any_of_range}
use Rattle.decision.specs.Groups.{entry_user, entry_role, some_ineligible}
use Rattle.decision.proofs.groups.some_ineligible.Goals as goal

pub returns : goal.returns
unfolding some_ineligible
returns c =
    any_of_range (λ i. not (may_act c.args.acting.now (entry_user c.args.g.now i) (entry_role c.args.g.now i)))
    (length c.args.g.now / 2) _ _ _ (cc) (λ x b q k. search (rules, tests)) c.any.ensures.ran
