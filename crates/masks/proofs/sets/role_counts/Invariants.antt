-- Each turn counts the roles of one set more.
use Rattle.decision.specs.Conditions.{role_num}
use Rattle.folds.proofs.Changing.{Changed}
use Rattle.masks.proofs.sets.role_counts.Given as goal

abbrev pub invariant-loop-v : goal.invariant-loop-v
invariant-loop-v l = Changed (λ v count. role_num v) l.v l.initial.count-items l.count-items
