-- `stands_before` meets its contract: it looks before entry i for an entry with the same user.
use Rattle.std.proofs.Common.{rules, tests}
use lib.Dec.{eqb}
use Rattle.folds.proofs.Chains.{any_of_range}
use Rattle.decision.specs.Groups.{entry_user, stands_before}
use Rattle.decision.proofs.groups.stands_before.Goals as goal

pub returns : goal.returns
unfolding stands_before
returns c =
    any_of_range (λ j. eqb (entry_user c.args.g.now j) (entry_user c.args.g.now c.args.i)) c.args.i _ _ _ (cc)
    (λ x b q k. search (rules, tests)) c.any.ensures.ran
