use Rattle.std.proofs.Common.{ℕ, ◌+◌, Bool, false, List, ◌≡◌}
use Rattle.folds.proofs.Searches.{NoneYet}
use Rattle.reader.specs.Tables.{contexts, record_count}
use Rattle.related.specs.Related.{joins, meets_some}
use Rattle.related.proofs.clauses.ContextClauses.are_related.Given as goal

-- the clauses of the table, and the one of 255 behind them
abbrev pub clause_count : List ℕ → ℕ
clause_count c = record_count contexts c + 1

-- no clause of x below i has a match
pub record Outer (c : List ℕ) (x y : ℕ) (found : Bool) (i : ℕ) : Type 0 where
  pub unfound : found ≡ false
  pub unmatched : NoneYet (clause_count c) (meets_some c x y) i

-- clause i has no match below j
pub record Inner (c : List ℕ) (y : ℕ) (found : Bool) (i j : ℕ) : Type 0 where
  pub unfound : found ≡ false
  pub unmatched : NoneYet (clause_count c) (joins c y i) j

abbrev pub invariant-pairs : goal.invariant-pairs
invariant-pairs l = Outer l.self l.x l.y l.found l.i

abbrev pub invariant-loop-j : goal.invariant-loop-j
invariant-loop-j l = Inner l.self l.y l.found l.i l.j
