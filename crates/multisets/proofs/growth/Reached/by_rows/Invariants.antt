use Rattle.std.proofs.Common.{◌+◌, ◌*◌}
use Rattle.multisets.specs.Ends.{Filled}
use Rattle.multisets.proofs.growth.Reached.by_rows.Given as goal

-- the level's first m multisets have led on
abbrev pub invariant-loop-m : goal.invariant-loop-m
invariant-loop-m g l = Filled l.users.d l.users.nexts (8 * (l.here + l.m)) l.self.ends l.self.from
