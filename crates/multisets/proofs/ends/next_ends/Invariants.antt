use Rattle.std.proofs.Common.{ℕ, ◌+◌, ◌*◌, ◌≤◌, ◌<◌, List, ◌≡◌, length, get_or}
use Rattle.multisets.specs.Ends.{NextEnd}
use Rattle.multisets.proofs.ends.next_ends.Given as goal

-- the ends from place `at` on are known
pub record Turn (sets : List ℕ) (at : ℕ) (ends : List ℕ) : Type 0 where
  pub size : length ends ≡ 200
  pub end : (from r : ℕ) → from ≤ 24 → r < 8 → at ≤ 8 * from + r → NextEnd sets from r (get_or ends (8 * from + r) 0)

abbrev pub invariant-loop-at : goal.invariant-loop-at
invariant-loop-at l = Turn l.sets l.at l.ends
