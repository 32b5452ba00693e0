use Rattle.std.proofs.Common.{◌/◌, ◌*◌, ◌^◌, cond, eqb, get_or, bit_or, length, refl, arith, rules, tests}
use Rattle.std.proofs.lemmas.Iterator.{YieldsList-from_range}
use Rattle.std.proofs.lemmas.Iterator.Consumers.{fold_from_yields_List}
use Rattle.masks.proofs.Owning.{own_all}
use Rattle.masks.proofs.clauses.own_clauses.Goals as goal

pub returns : goal.returns
returns c =
    own_all c.args.k.now c.args.permission (fold_from_yields_List _
    (λ own i. cond (eqb (get_or c.args.k.now (16 * i) 0) c.args.permission) (bit_or own (2 ^ i)) own) 0 _
    c.fold.ensures.ran
    (YieldsList-from_range 0 (length c.args.k.now / 16) (length c.args.k.now / 16) refl (omega arith))
    (λ a x b q k. search (rules, tests)))
