use Rattle.std.proofs.Common.{◌+◌, ◌^◌, cond, eqb, get_or, bit_or, refl, ◌∙◌, arith, rules, tests}
use Rattle.std.proofs.lemmas.Iterator.{YieldsList-from_range}
use Rattle.std.proofs.lemmas.Iterator.Consumers.{fold_from_yields_List}
use Rattle.folds.proofs.Folds.{fold_passing}
use Rattle.batch.proofs.permissions.weightless_from.Goals as goal

pub returns : goal.returns
returns c =
    fold_from_yields_List _
    (λ set r. cond (eqb (get_or c.args.weights.now (c.args.at + r) 0) 0) (bit_or set (2 ^ r)) set) 0 c.fold.result
    c.fold.ensures.ran (YieldsList-from_range 0 8 8 refl (omega arith)) (λ a x b q k. search (rules, tests))
    ∙ fold_passing (λ r. eqb (get_or c.args.weights.now (c.args.at + r) 0) 0) 8
