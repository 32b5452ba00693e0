-- `clause_holds` meets its contract: what each condition is asked is the definition's.
use Rattle.std.proofs.Common.{rules, tests}
use Rattle.decision.specs.Conditions.{condition_holds, clause_holds}
use Rattle.decision.proofs.conditions.clause_holds.Goals as goal

pub returns : goal.returns
unfolding clause_holds condition_holds
returns c =
    let a = c.args.attributes in
    c.all_pass.ensures (condition_holds c.args.k.now a.entries a.sum a.roles c.args.i)
    (λ j r l k. search (rules, tests))
