use Rattle.std.proofs.Common.{ℕ, ◌≤◌, List, ◌≡◌, length}
use lib.ListN.{replicate}
use Rattle.multisets.specs.Ends.{Way}
use Rattle.multisets.proofs.Bytes.{whole}
use Rattle.multisets.proofs.back.group.Given as goal

-- what stands, with the entries that are left written into it, makes the whole
pub record Turn (ends from : List ℕ) (n x : ℕ) (out : List ℕ) (at left : ℕ) : Type 0 where
  pub room : ℕ
  pub few : left ≤ n
  pub size : length out ≡ 12
  pub way : Way room ends from left at
  pub most : room ≤ 3003
  pub ends_room : room ≤ length ends
  pub from_room : room ≤ length from
  pub same : whole ends from out left at ≡ whole ends from (replicate 12 255) n x

abbrev pub invariant-loop-left : goal.invariant-loop-left
invariant-loop-left l = Turn l.ends l.from l.n l.x l.out l.at l.left
