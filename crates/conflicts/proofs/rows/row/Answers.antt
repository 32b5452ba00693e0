-- `row` meets its contract: it gathers the numbers that pass the test.
use Rattle.std.proofs.Common.{rules, ap, arith}
use Rattle.std.proofs.lemmas.Iterator.{serves_from_Range}
use Rattle.folds.proofs.Folds.{gathered_between}
use Rattle.conflicts.proofs.rows.row.Goals as goal

pub fold-requires-clause-can : goal.fold-requires-clause-can
fold-requires-clause-can g c =
    let range = c.filter.ensures.source in
    let start = ap (λ (r : _). r.start) range in
    let end = ap (λ (r : _). r.end) range in (
      tt,
      tt,
      serves_from_Range (λ x q k. search rules)
          (λ j a b. let may = c.requires.callable j (omega arith) (omega arith) in search rules),
    )

pub returns : goal.returns
returns g c =
    λ p passes none j.
    gathered_between p c.args.from c.args.end c.requires.inside.0 c.fold.ensures.ran c.filter.ensures.source
    c.filter.ensures.closure (λ x b q l m k. (search rules, passes x b l m (search rules)))
    (λ a x b q k. search rules) none j
