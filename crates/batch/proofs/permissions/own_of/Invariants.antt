-- The permissions below the one that it is at have theirs.
use Rattle.batch.specs.Asked.{OwnOf}
use Rattle.batch.proofs.permissions.own_of.Given as goal

abbrev pub invariant-loop-permission : goal.invariant-loop-permission
invariant-loop-permission l = OwnOf l.k l.permission l.asked l.own
