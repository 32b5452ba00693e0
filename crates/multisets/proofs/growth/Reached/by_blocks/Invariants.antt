use Rattle.std.proofs.Common.{◌+◌, ◌*◌}
use Rattle.multisets.specs.Ranks.{starts, first}
use Rattle.multisets.specs.Ends.{Filled}
use Rattle.multisets.proofs.growth.Reached.by_blocks.Given as goal

-- the blocks of the roles below r have led on
abbrev pub invariant-loop-r : goal.invariant-loop-r
invariant-loop-r g l =
    Filled l.users.d l.users.nexts (8 * (first l.users.d 5 + starts 5 l.r)) l.self.ends l.self.from
