-- The juniors gathered are those of the records of s.
use Rattle.std.proofs.Common.{◌/◌, ◌^◌, length, get_or, bit_or, eqb, rules, tests, ◌∙◌}
use Rattle.folds.proofs.Tests.{any_same}
use Rattle.reader.specs.Fields.{senior, junior}
use Rattle.reader.proofs.Accepted.{hierarchy_fine}
use Rattle.folds.proofs.Folds.{fold_callable, fold_gathers}
use Rattle.weights.proofs.Steps.{in_with}
use Rattle.weights.specs.Setting.{next_junior}
use Rattle.weights.proofs.seniority.juniors_of.Goals as goal

pub fold-requires-clause-callable : goal.fold-requires-clause-callable
fold-requires-clause-callable c =
    fold_callable (length c.args.h.now / 2) (cc) (λ a x b q k. search (rules, tests))
    (λ a x l. let fine = hierarchy_fine 8 0 c.args.h.now x c.requires l in
    let low = fine.role in
    search rules)

pub returns : goal.returns
returns c j =
    let h = c.args.h.now in
    let known = c.args.known in
    fold_gathers (λ i. eqb (senior h i) c.args.s) (λ i. bit_or (2 ^ junior h i) (get_or known (junior h i) 0))
    (length h / 2) _ (cc) (λ a x b q k. search (rules, tests)) c.fold.ensures.ran j
    ∙ any_same _ (next_junior h known c.args.s j) (length h / 2) (λ i l. rw in_with)
