use Rattle.std.proofs.Common.{rules, tests, length, ◌/◌}
use Rattle.folds.proofs.Chains.{any_of_range}
use Rattle.reader.specs.Rules.{context_bad, contexts_bad}
use Rattle.reader.proofs.contexts.contexts_bad.Goals as goal

pub returns : goal.returns
unfolding contexts_bad
returns c =
    any_of_range (context_bad c.args.c.now) (length c.args.c.now / 16) _ _ _ (cc)
    (λ x b q k. search (rules, tests)) c.any.ensures.ran
