use Rattle.std.proofs.Common.{bit_and, sym, get_or, arith}
use Rattle.std.proofs.lemmas.Grind.{get_or_default_zero}
use Rattle.std.proofs.lemmas.List.Edits.{map_over_more}
use Rattle.masks.proofs.clauses.strike.Goals as goal

pub loop-mask-preserved : goal.loop-mask-preserved
loop-mask-preserved c =
    let i = c.loop-mask.mask-index in
    let mask = get_or c.loop-mask.masks i 0 in
    map_over_more (λ mask. bit_and mask c.args.others) c.args.masks.now c.loop-mask.masks i mask
    c.loop-mask-test.true c.loop-mask.invariant (sym (get_or_default_zero c.loop-mask.masks i mask (omega arith)))
