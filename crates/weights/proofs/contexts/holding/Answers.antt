-- The numbers gathered are those of the clauses that hold.
use borrow.Author.Tests.{ne_eqb}
use Rattle.std.proofs.Common.{◌≡◌, ℕ, ◌&&◌, ◌/◌, ◌^◌, List, length, eqb, rules, tests, arith, ◌∙◌}
use Rattle.std.proofs.Math.Bool.{and_comm}
use Rattle.folds.specs.Sets.{in_set}
use Rattle.folds.specs.Below.{any_below}
use Rattle.folds.proofs.Bools.{eqb_sym}
use Rattle.folds.proofs.Tests.{any_same}
use Rattle.folds.proofs.Sets.{in_one}
use Rattle.reader.specs.Fields.{context_number}
use Rattle.reader.proofs.Accepted.{context_fine}
use Rattle.folds.proofs.Folds.{fold_callable, fold_gathers}
use Rattle.weights.specs.declared.Context.{Context}
use Rattle.weights.specs.Contexts.{context_clause_holds, clause_of_holds, context_holds}
use Rattle.weights.specs.Setting.{Holding}
use Rattle.weights.proofs.contexts.holding.Goals as goal

-- of plain values
held : (at : Context) (c : List ℕ) (s : ℕ) →
    ((j : ℕ) → in_set s j
    ≡ any_below (length c / 16) (λ i. context_clause_holds at c i && in_set (2 ^ context_number c i) j)) →
    Holding at c s
unfolding context_holds
held at c s has = record {
  number = λ n l.
      rw (ne_eqb n 255 (λ q. omega arith))
      (has n ∙ any_same _ (clause_of_holds at c n) (length c / 16)
      (λ i m. rw (in_one, eqb_sym) (and_comm (context_clause_holds at c i) (eqb (context_number c i) n))));
}

pub fold-requires-clause-callable : goal.fold-requires-clause-callable
fold-requires-clause-callable c =
    fold_callable (length c.args.c.now / 16) (cc) (λ a x b q k. search (rules, tests))
    (λ a x l. let fine = context_fine 0 0 c.args.c.now x c.requires l in
    let few = fine.at_most in
    let low = fine.number in
    search rules)

pub returns : goal.returns
returns c =
    let a = c.args in
    held a.at a.c.now _
    (fold_gathers (context_clause_holds a.at a.c.now) (λ i. 2 ^ context_number a.c.now i)
    (length a.c.now / 16) _ (cc) (λ a x b q k. search (rules, tests)) c.fold.ensures.ran)
