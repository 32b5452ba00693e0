-- `clause_holds` meets its contract: what each condition is asked is the definition's.
use Rattle.std.proofs.Common.{rules, tests}
use Rattle.weights.specs.Contexts.{context_condition_holds, context_clause_holds}
use Rattle.weights.proofs.contexts.clause_holds.Goals as goal

pub returns : goal.returns
unfolding context_clause_holds context_condition_holds
returns c =
    c.all_pass.ensures (context_condition_holds c.args.at c.args.c.now c.args.i) (λ j r l k. search (rules, tests))
