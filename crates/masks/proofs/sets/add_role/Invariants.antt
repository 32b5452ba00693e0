-- Each turn doubles one mask more.
use Rattle.std.proofs.Common.{◌≡◌, ◌<◌, ℕ, bit_and, get_or}
use Rattle.folds.proofs.Changing.{Changed}
use Rattle.masks.proofs.sets.add_role.Given as goal

abbrev pub invariant-loop-v : goal.invariant-loop-v
invariant-loop-v l = record {
  lower : Changed (λ v mask. bit_and mask l.without) l.v l.initial.low l.low;
  upper : (v : ℕ) → v < l.v → get_or l.high v 0 ≡ bit_and (get_or l.initial.low v 0) l.with;
}
