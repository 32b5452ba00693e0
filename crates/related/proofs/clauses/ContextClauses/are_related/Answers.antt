-- `are_related` meets its contract: it looks for a clause of x that can hold together with some clause of y. By the law
-- of related contexts there is one exactly where the numbers are related.
use Rattle.std.proofs.Common.{ℕ, ◌+◌, ◌≤◌, ◌<◌, Bool, true, false, List, ◌≡◌, refl, sym, ◌∙◌}
use Rattle.folds.specs.Below.{any_below}
use Rattle.folds.proofs.Bools.{and_both}
use Rattle.folds.proofs.Searches.{none_at_first, none_further, one_found, none_found}
use Rattle.related.specs.Related.{clause_of, joins, meets_some}
use Rattle.related.proofs.Relating.{related_pairs}
use Rattle.related.proofs.clauses.ContextClauses.are_related.Invariants.{clause_count, Outer, Inner}
use Rattle.related.proofs.clauses.ContextClauses.are_related.Goals as goal
use Rattle.related.proofs.clauses.ContextClauses.are_related.Goals.{then-clause_of+else-loop-j-test, else-clause_of}

next_inner : {c : List ℕ} {y : ℕ} {found : Bool} {i j : ℕ} {r : Bool} → Inner c y found i j → j < clause_count c →
    r ≡ joins c y i j → r ≡ false → Inner c y found i (j + 1)
next_inner inner l e h = record {
  unfound = inner.unfound;
  unmatched = none_further inner.unmatched l (sym e ∙ h);
}

-- a turn of the outer loop; r says whether clause i is one of x
module _ {c : List ℕ} {x y : ℕ} {found : Bool} {i : ℕ} (outer : Outer c x y found i) (l : i < clause_count c)
    {r : Bool} (e : r ≡ clause_of c x i) where
  match : {between t : Bool} {j : ℕ} → r ≡ true → Inner c y between i j → j < clause_count c →
      t ≡ joins c y i j → t ≡ true → true ≡ any_below (clause_count c) (meets_some c x y)
  match h inner m f k =
      one_found outer.unmatched l (and_both (sym e ∙ h) (sym (one_found inner.unmatched m (sym f ∙ k))))

  no_match : {between now : Bool} {j : ℕ} → r ≡ true → Inner c y between i j → clause_count c ≤ j → now ≡ between →
      Outer c x y now (i + 1)
  no_match h inner m n = record {
    unfound = n ∙ inner.unfound;
    unmatched = none_further outer.unmatched l (rw (← e, h) (sym (none_found inner.unmatched m)));
  }

  other : {now : Bool} → r ≡ false → now ≡ found → Outer c x y now (i + 1)
  other h n = record {
    unfound = n ∙ outer.unfound;
    unmatched = none_further outer.unmatched l (rw (← e, h));
  }

pub pairs-init : goal.pairs-init
pairs-init c = record { unfound = refl; unmatched = none_at_first }

pub loop-j-init : goal.loop-j-init
loop-j-init c = record { unfound = c.pairs.invariant.unfound; unmatched = none_at_first }

pub loop-j-preserved : goal.loop-j-preserved
loop-j-preserved c =
    next_inner c.loop-j.invariant (rw (← c.self.view_is) c.loop-j-test.true) c.joins_clause.ensures
    c.if-joins_clause.false

pub pairs-preserved : goal.pairs-preserved
pairs-preserved c =
    let outer = c.pairs.invariant in
    let more : c.pairs.i < clause_count c.args.self.now = rw (← c.self.view_is) c.pairs-test.true in
    elim c.if-clause_of.branch [
      | then-clause_of+else-loop-j-test w ↦
          no_match outer more c.clause_of.ensures w.if-clause_of.true w.loop-j.invariant
          (rw (← c.self.view_is) w.loop-j-test.false) w.found-is
      | else-clause_of w ↦ other outer more c.clause_of.ensures w.if-clause_of.false w.found-is
    ]

pub returns-after-pairs : goal.returns-after-pairs
returns-after-pairs c =
    let outer = c.pairs.invariant in
    let (fine, whole) = rw c.self.view_is at c.self.invariant in
    outer.unfound ∙ none_found outer.unmatched (rw (← c.self.view_is) c.pairs-test.false)
    ∙ sym (related_pairs c.args.self.now fine whole c.args.x c.args.y)

pub returns-then-joins_clause : goal.returns-then-joins_clause
returns-then-joins_clause c =
    let (fine, whole) = rw c.self.view_is at c.self.invariant in
    match c.pairs.invariant (rw (← c.self.view_is) c.pairs-test.true) c.clause_of.ensures c.if-clause_of.true
    c.loop-j.invariant (rw (← c.self.view_is) c.loop-j-test.true) c.joins_clause.ensures c.if-joins_clause.true
    ∙ sym (related_pairs c.args.self.now fine whole c.args.x c.args.y)
