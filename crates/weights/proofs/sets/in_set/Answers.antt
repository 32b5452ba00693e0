-- Shifting by r divides by 2 ^ r.
use mathlib.Core.Path.{refl}
use Rattle.folds.specs.Sets.{in_set}
use Rattle.weights.proofs.sets.in_set.Goals as goal

pub returns : goal.returns
unfolding in_set
returns c = refl
