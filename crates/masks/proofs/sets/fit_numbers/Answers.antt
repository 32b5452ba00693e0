-- The number of roles is the count that is read.
use Rattle.std.proofs.Common.{◌≡◌, bit_or, arith}
use Rattle.decision.specs.Conditions.{role_num}
use Rattle.masks.proofs.SetMasks.{role_num_le, counted}
use Rattle.masks.proofs.sets.fit_numbers.Goals as goal

pub bounds-numbers-wide : goal.bounds-numbers-wide
bounds-numbers-wide c =
    let set = bit_or c.args.start c.loop-v.v in
    let most = role_num_le set in
    let e : c.wide-in-loop-v.result ≡ role_num set =
    counted c.args.counts.now c.wide.ensures.0 c.wide-in-loop-v.ensures.0
    (c.requires.1 c.loop-v.v c.loop-v-test.true) in
    omega arith
