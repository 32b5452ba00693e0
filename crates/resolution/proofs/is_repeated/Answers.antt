-- `is_repeated` meets its contract: it looks before byte k for the same byte.
use Rattle.std.proofs.Common.{◌∙◌, get_or, arith}
use lib.Dec.{eqb}
use Rattle.resolution.specs.Resolution.{repeated}
use Rattle.folds.proofs.Chains.{any_of_front}
use Rattle.resolution.proofs.is_repeated.Goals as goal

pub returns : goal.returns
unfolding repeated
returns c = c.contains.ensures.value ∙ any_of_front (λ x. eqb x (get_or c.args.list.now c.args.k 0)) _ 0 _ (omega arith)
