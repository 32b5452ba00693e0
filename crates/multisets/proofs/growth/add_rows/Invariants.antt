use Rattle.std.proofs.Common.{◌+◌}
use Rattle.multisets.specs.Ranks.{starts, first}
use Rattle.multisets.specs.Levels.{Rows}
use Rattle.multisets.proofs.growth.add_rows.Given as goal

-- the blocks of the roles below r have their rows
abbrev pub invariant-loop-r : goal.invariant-loop-r
invariant-loop-r l = Rows l.d (first l.d l.n + starts l.n l.r) l.t
