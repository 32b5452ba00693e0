-- Each turn strikes out of one role's mask more.
use Rattle.std.proofs.Common.{cond, bit_and}
use Rattle.folds.specs.Sets.{in_set}
use Rattle.folds.proofs.Changing.{Changed}
use Rattle.masks.proofs.clauses.strike_roles.Given as goal

abbrev pub invariant-loop-r : goal.invariant-loop-r
invariant-loop-r l =
    Changed (λ r mask. cond (in_set l.value r) (bit_and mask l.others) mask) l.r l.initial.masks l.masks
