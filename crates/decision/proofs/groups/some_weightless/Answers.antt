-- `some_weightless` meets its contract: it looks for an entry whose role has weight 0.
use Rattle.std.proofs.Common.{rules, tests, length, get_or, ◌/◌}
use lib.Dec.{eqb}
use Rattle.folds.proofs.Chains.{any_of_range}
use Rattle.decision.specs.Groups.{entry_role, some_weightless}
use Rattle.decision.proofs.groups.some_weightless.Goals as goal

pub returns : goal.returns
unfolding some_weightless
returns c =
    any_of_range (λ i. eqb (get_or c.args.w (entry_role c.args.g.now i) 0) 0) (length c.args.g.now / 2) _ _ _ (cc)
    (λ x b q k. search (rules, tests)) c.any.ensures.ran
