-- The sets have what the records before the rest say.
use Rattle.std.proofs.Common.{◌≡◌}
use Rattle.conflicts.proofs.Excluding.{AddedYet}
use Rattle.conflicts.proofs.covers.excluded_sets.Given as goal

abbrev pub invariant-loop-exclusion : goal.invariant-loop-exclusion
invariant-loop-exclusion l =
    AddedYet l.x l.excluded l.exclusion-iterator.rest.now × (l.exclusion-iterator.size ≡ 3)
