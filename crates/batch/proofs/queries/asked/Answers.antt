-- `asked` meets its contract: the fold adds each query's permission that is there.
use Rattle.std.proofs.Common.{rules, ◌*◌, ◌^◌, length, get_or, ltb, ◌/◌}
use Rattle.folds.proofs.Folds.{fold_gathers}
use Rattle.batch.proofs.Asking.{asked_by}
use Rattle.batch.proofs.queries.asked.Goals as goal

pub returns : goal.returns
returns c =
    let q = c.args.queries.now in
    let P = c.args.permissions in
    asked_by q P _
    (fold_gathers (λ i. ltb (get_or q (14 * i) 0) P) (λ i. 2 ^ get_or q (14 * i) 0) (length q / 14) _ (cc)
    (λ a x b f k. search rules) c.fold.ensures.ran)
