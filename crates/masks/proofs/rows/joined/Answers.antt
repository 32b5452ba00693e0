use Rattle.std.proofs.Common.{bit_or, rules}
use Rattle.std.proofs.lemmas.Iterator.{YieldsList-from_slice}
use Rattle.std.proofs.lemmas.Iterator.Consumers.{fold_from_yields_List}
use Rattle.masks.proofs.RowMasks.{joined_all}
use Rattle.masks.proofs.rows.joined.Goals as goal

pub returns : goal.returns
returns c =
    joined_all c.args.masks.now
    (fold_from_yields_List _ (λ all mask. bit_or all mask) 0 c.fold.result c.fold.ensures.ran
    (YieldsList-from_slice c.args.masks.now cc) (λ a x b q k. search rules))
