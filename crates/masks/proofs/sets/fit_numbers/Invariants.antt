-- Each turn looks at one set more.
use Rattle.std.proofs.Common.{get_or, bit_and, bit_or}
use Rattle.decision.specs.Conditions.{role_num}
use Rattle.folds.proofs.Changing.{Changed}
use Rattle.masks.proofs.sets.fit_numbers.Given as goal

abbrev pub invariant-loop-v : goal.invariant-loop-v
invariant-loop-v l =
    Changed (λ v mask. bit_and mask (get_or l.numbers (role_num (bit_or l.start v)) 0)) l.v l.initial.sets l.sets
