-- Each turn strikes the clause out by one condition more.
use Rattle.masks.specs.Clauses.{met_below}
use Rattle.masks.specs.Striking.{StruckOut}
use Rattle.masks.proofs.asked.Striking.strike_clause.Given as goal

abbrev pub invariant-loop-j : goal.invariant-loop-j
invariant-loop-j l =
    StruckOut (met_below l.k l.i l.j) l.others l.initial.self l.self
