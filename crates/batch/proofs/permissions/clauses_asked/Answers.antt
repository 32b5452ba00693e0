-- Clause by clause, those of a permission of the set.
use Rattle.std.proofs.Common.{◌/◌, ◌*◌, ◌^◌, cond, get_or, bit_or, length, refl, arith, rules, tests}
use Rattle.std.proofs.lemmas.Iterator.{YieldsList-from_range}
use Rattle.std.proofs.lemmas.Iterator.Consumers.{fold_from_yields_List}
use Rattle.folds.specs.Sets.{in_set}
use Rattle.folds.proofs.Folds.{fold_callable}
use Rattle.batch.proofs.Gathering.{asked_all}
use Rattle.batch.proofs.permissions.clauses_asked.Goals as goal

pub fold-requires-clause-callable : goal.fold-requires-clause-callable
fold-requires-clause-callable c =
    fold_callable (length c.args.k.now / 16) (cc) (λ a x b q k. search (rules, tests))
    (λ a x l. let low = c.requires.1 x l in search rules)

pub returns : goal.returns
returns c =
    asked_all c.args.k.now c.args.asked (fold_from_yields_List _
    (λ all i. cond (in_set c.args.asked (get_or c.args.k.now (16 * i) 0)) (bit_or all (2 ^ i)) all) 0 _
    c.fold.ensures.ran
    (YieldsList-from_range 0 (length c.args.k.now / 16) (length c.args.k.now / 16) refl (omega arith))
    (λ a x b q k. search (rules, tests)))
