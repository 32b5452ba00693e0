-- `all_pass` meets its contract: it looks for a condition that fails the test.
use Rattle.std.proofs.Common.{rules}
use Rattle.folds.proofs.Chains.{all_of_mapped}
use Rattle.reader.specs.Fields.{condition_count}
use Rattle.reader.proofs.conditions.all_pass.Goals as goal

pub returns : goal.returns
returns g c =
    λ p passes.
    let a = c.args in
    all_of_mapped (g.C.Condition.at a.records.now a.i) p (condition_count a.records.now a.i) c.all.ensures.ran (cc)
    c.map.ensures.closure
    (λ x y q k. search rules) (λ k b q l call. (search rules, passes k b l (search rules)))
