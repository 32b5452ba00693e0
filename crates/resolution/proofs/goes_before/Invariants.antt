use Rattle.std.proofs.Common.{ℕ, List, ◌≡◌, ◌≤◌, length, drop}
use Rattle.resolution.specs.Resolution.{goes_before}
use Rattle.resolution.proofs.goes_before.Given as goal

-- the rules from k on decide
pub record Turn (list a : List ℕ) (i j k : ℕ) : Type 0 where
  pub within : k ≤ length list
  pub left : goes_before list a i j ≡ goes_before (drop k list) a i j

abbrev pub invariant-loop-byte : goal.invariant-loop-byte
invariant-loop-byte l = Turn l.list l.a l.i l.j l.byte-index
