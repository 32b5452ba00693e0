-- Each turn makes the set of one user more.
use Rattle.folds.specs.Sets.{set_below}
use Rattle.folds.proofs.Changing.{Changed}
use Rattle.weights.specs.Acting.{may_act}
use Rattle.weights.proofs.acting.Acting.sets.Given as goal

abbrev pub invariant-loop-u : goal.invariant-loop-u
invariant-loop-u l = Changed (λ u set. set_below 8 (may_act l.self u)) l.u l.initial.set-items l.set-items
