-- Each turn strikes out of one mask more.
use Rattle.std.proofs.Common.{◌≡◌, map, take, drop, ◌++◌, bit_and}
use Rattle.masks.proofs.clauses.strike.Given as goal

abbrev pub invariant-loop-mask : goal.invariant-loop-mask
invariant-loop-mask l =
    l.masks
    ≡ map (λ mask. bit_and mask l.others) (take l.mask-index l.initial.masks) ++ drop l.mask-index l.initial.masks
