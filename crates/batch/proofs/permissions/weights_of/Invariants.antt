-- The permissions below the one that it is at have theirs.
use Rattle.batch.proofs.Weighing.{WeightsBelow}
use Rattle.batch.proofs.permissions.weights_of.Given as goal

abbrev pub invariant-loop-permission : goal.invariant-loop-permission
invariant-loop-permission l = WeightsBelow l.permission l.base l.s.at l.asked l.weights
