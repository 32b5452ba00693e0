-- `seniors_of` meets its contract: it gathers the roles that have j among their juniors.
use Rattle.std.proofs.Common.{rules, tests, arith, ◌∙◌, not-suc-le-zero}
use borrow.Author.Tests.{lt-ltb}
use lib.ListN.{get_or}
use Rattle.folds.specs.Sets.{in_set}
use Rattle.folds.proofs.Folds.{gathered_from}
use Rattle.conflicts.proofs.covers.seniors_of.Goals as goal

pub returns : goal.returns
returns c =
    let p = λ (k : _). in_set (get_or c.args.juniors.now k 0) c.args.j in
    λ s l.
    gathered_from p 0 8 (omega arith) c.fold.ensures.ran c.filter.ensures.source c.filter.ensures.closure
    (λ x b q k. search (rules, tests)) (λ a x b q k. search rules) (λ k l. absurd (not-suc-le-zero l)) s
    ∙ rw (lt-ltb s 8 l)
