-- What is kept of a group that 12 to 15 don't refuse.
use Rattle.std.specs.Prelude.{ℕ, ◌<◌, ◌≤◌, List, length}
use Rattle.decision.specs.Groups.{entry_count, entry_role}

-- at most twelve bytes, and roles below 8
pub record Seated (g : List ℕ) : Type 0 where
  pub few : length g ≤ 12
  pub low : (i : ℕ) → i < entry_count g → entry_role g i < 8
