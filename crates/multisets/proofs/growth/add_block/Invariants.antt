use Rattle.std.proofs.Common.{ℕ, ◌+◌, List}
use Rattle.multisets.specs.Levels.{Rows}
use Rattle.multisets.proofs.Rows.{Block}
use Rattle.multisets.proofs.growth.add_block.Given as goal

-- the first j multisets of the block have their rows
pub record Turn (d n r less here count : ℕ) (fixed kept : List ℕ) (j : ℕ) (t : List ℕ) : Type 0 where
  pub block : Block d n r less here count fixed kept
  pub rows : Rows d (here + j) t

abbrev pub invariant-loop-j : goal.invariant-loop-j
invariant-loop-j l = Turn l.d l.n l.r l.less l.here l.j-end l.fixed l.kept l.j l.t
