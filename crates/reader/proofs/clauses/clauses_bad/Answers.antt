use Rattle.std.proofs.Common.{rules, tests, length, ◌/◌}
use Rattle.folds.proofs.Chains.{any_of_range}
use Rattle.reader.specs.Rules.{clause_bad, clauses_bad}
use Rattle.reader.proofs.clauses.clauses_bad.Goals as goal

pub returns : goal.returns
unfolding clauses_bad
returns c =
    any_of_range (clause_bad c.args.numbers.roles c.args.numbers.permissions c.args.k.now) (length c.args.k.now / 16)
    _ _ _ (cc) (λ x b q k. search (rules, tests)) c.any.ensures.ran
