-- Shifting by r divides by 2 ^ r.
use Rattle.std.proofs.Common.{refl}
use Rattle.folds.specs.Sets.{in_set}
use Rattle.seek.proofs.leading.leads.Goals as goal

pub returns : goal.returns
unfolding in_set
returns c = rw (c.from.ensures) refl
