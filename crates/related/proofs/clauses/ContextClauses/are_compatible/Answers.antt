-- `are_compatible` meets its contract: it looks for a parameter that no value can meet.
use Rattle.std.proofs.Common.{rules, tests}
use Rattle.folds.proofs.Chains.{all_of_range}
use Rattle.related.specs.Related.{meetable, compatible}
use Rattle.related.proofs.clauses.ContextClauses.are_compatible.Goals as goal

pub returns : goal.returns
unfolding compatible
returns c =
    all_of_range (meetable c.args.self.now c.args.i c.args.j) 3 _ _ _ (cc)
    (λ x b q k. search (rules, tests)) c.all.ensures.ran
