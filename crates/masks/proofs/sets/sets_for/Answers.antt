use Rattle.std.proofs.Common.{not, eqb, rules, tests}
use Rattle.std.proofs.lemmas.Iterator.{YieldsList-from_slice}
use Rattle.std.proofs.lemmas.Iterator.Search.{any_from_yields_List}
use Rattle.folds.proofs.Chains.{none_other}
use Rattle.masks.proofs.SetMasks.{sets_fitted, sets_plain}
use Rattle.masks.proofs.sets.sets_for.Goals as goal

pub returns-then-any : goal.returns-then-any
returns-then-any c =
    sets_fitted c.args.asked.now.numbers (search rules) c.sets_below.ensures
    (c.mark_sets.ensures c.args.asked.now.roles c.args.start c.without_role.ensures) c.fit_numbers.ensures

pub returns-else-any : goal.returns-else-any
returns-else-any c =
    let own = none_other c.args.own c.args.asked.now.numbers c.if-any.false
    (any_from_yields_List (λ n. not (eqb n c.args.own)) _ _ _ c.any.ensures.ran
    (YieldsList-from_slice _ c.iter.ensures.rest) (λ x b q k. search (rules, tests))) in
    let size = c.args.asked.now.room.numbers in
    sets_plain c.args.asked.now.numbers (rw size at own)
    (c.mark_sets.ensures c.args.asked.now.roles c.args.start c.without_role.ensures)
