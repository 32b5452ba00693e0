-- `relation_row` meets its contract: it gathers the slots from s on to which s is related; none where s isn't named.
use Rattle.std.proofs.Common.{◌&&◌, rules, tests, arith, ◌∙◌}
use mathlib.Core.Bool.{and-false}
use borrow.Author.Tests.{lt-ltb}
use Rattle.std.proofs.lemmas.Bool.{lt-leb}
use Rattle.folds.specs.Sets.{in_set}
use Rattle.folds.proofs.Sets.{in_none}
use Rattle.related.specs.Slots.{related_slots}
use Rattle.folds.proofs.Folds.{gathered_from}
use Rattle.related.proofs.slots.relation_row.Goals as goal

pub returns-then-in_set : goal.returns-then-in_set
returns-then-in_set c =
    let s = c.args.s in
    let p = related_slots c.args.c.now c.args.names s in
    λ t l.
    gathered_from p s 17 (omega arith) c.fold.ensures.ran c.filter.ensures.source c.filter.ensures.closure
    (λ x b q k. search (rules, tests)) (λ a x b q k. search rules)
    (λ k b. rw (lt-leb s k b) (and-false (in_set c.args.names s && in_set c.args.names k))) t
    ∙ rw (lt-ltb t 17 l)

pub returns-else-in_set : goal.returns-else-in_set
returns-else-in_set c = λ t l. in_none t ∙ rw (← c.if-in_set.ensures)
