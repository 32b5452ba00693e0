-- The juniors of the roles from s on are known.
use Rattle.std.proofs.Common.{◌≡◌, ℕ, ◌<◌, ◌≤◌, length, get_or}
use Rattle.folds.specs.Sets.{in_set}
use Rattle.weights.specs.Seniority.{senior_to}
use Rattle.weights.proofs.seniority.juniors.Given as goal

abbrev pub invariant-loop-s : goal.invariant-loop-s
invariant-loop-s l = record {
  size : length l.known ≡ 8;
  role : (r j : ℕ) → l.s ≤ r → r < 8 → in_set (get_or l.known r 0) j ≡ senior_to l.h r j;
}
