-- Each turn strikes one clause more out.
use Rattle.std.proofs.Common.{◌≡◌}
use Rattle.masks.proofs.Narrowing.{Turn}
use Rattle.masks.proofs.asked.Striking.strike_clauses.Given as goal

abbrev pub invariant-loop-rest : goal.invariant-loop-rest
invariant-loop-rest l =
    Turn l.k l.own l.initial.self.sums.now l.rest l.self.asked l.self.sums.now
    × (l.self.sums.ghost_name ≡ l.initial.self.sums.ghost_name)

abbrev pub decreases-loop-rest : goal.decreases-loop-rest
decreases-loop-rest l = l.rest
