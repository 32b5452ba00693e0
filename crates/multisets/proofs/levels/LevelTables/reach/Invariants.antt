use Rattle.std.proofs.Common.{◌-◌, ◌≡◌}
use Rattle.multisets.proofs.levels.LevelTables.reach.Given as goal

-- what the tables are for stays, and so do the sums
abbrev pub invariant-loop-self : goal.invariant-loop-self
invariant-loop-self g l = record {
  users : l.self.users ≡ l.initial.self.users;
  sums : l.self.sums ≡ l.initial.self.sums;
}

abbrev pub decreases-loop-self : goal.decreases-loop-self
decreases-loop-self g l = l.n - l.self.known
