use Rattle.std.proofs.Common.{bit_and, rules}
use Rattle.std.proofs.lemmas.Iterator.{YieldsList-from_slice}
use Rattle.std.proofs.lemmas.Iterator.Consumers.{fold_from_yields_List}
use Rattle.masks.proofs.SetMasks.{reached_all}
use Rattle.masks.proofs.sets.within_reach.Goals as goal

pub returns : goal.returns
returns c = λ roles start h.
    reached_all h c.requires c.wide.ensures.0
    (fold_from_yields_List _ (λ reached mask. bit_and reached mask) c.args.own c.fold.result c.fold.ensures.ran
    (YieldsList-from_slice _ c.iter.ensures.rest) (λ a x b q k. search rules))
