use Rattle.masks.proofs.Narrowing.{in_table}
use Rattle.masks.proofs.asked.Striking.strike_clauses.Goals as goal

pub strike_clause-requires : goal.strike_clause-requires
strike_clause-requires c = in_table c.loop-rest.invariant.0 c.requires.0 c.some_clause-i.ensures.1
