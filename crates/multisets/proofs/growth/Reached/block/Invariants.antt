use Rattle.std.proofs.Common.{ℕ, ◌+◌, ◌*◌, List, ◌≡◌}
use Rattle.multisets.specs.Ranks.{starts, first}
use Rattle.multisets.specs.Ends.{Filled}
use Rattle.multisets.proofs.Rows.{Block}
use Rattle.multisets.proofs.growth.Reached.block.Given as goal

-- the first j multisets of the block have led on
pub record Turn (d r less here next count : ℕ) (fixed kept nexts : List ℕ) (j : ℕ) (ends from : List ℕ)
    : Type 0 where
  pub block : Block d 4 r less here count fixed kept
  pub next_is : next ≡ first d 6 + starts 5 r
  pub filled : Filled d nexts (8 * (here + j)) ends from

abbrev pub invariant-loop-j : goal.invariant-loop-j
invariant-loop-j g l =
    Turn l.users.d l.r l.less l.here l.next l.j-end l.fixed l.kept l.users.nexts l.j l.self.ends l.self.from
