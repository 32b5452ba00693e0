use Rattle.std.proofs.Common.{◌≡◌, arith}
use Rattle.std.proofs.lemmas.List.{get_or-take, length-take-le}
use Rattle.masks.proofs.SetMasks.{half_is, with_weight, with_none, marked_none, marked_next, marked_all}
use Rattle.masks.proofs.sets.mark_sets.Goals as goal
use Rattle.masks.proofs.sets.mark_sets.Goals.{then-weight-gt0, else-weight-gt0}

pub loop-r-init : goal.loop-r-init
loop-r-init c = λ roles start h.
    marked_none c.args.own roles c.args.w start c.args.end c.args.sets.now c.told-sets
    (c.within_reach.ensures roles start h)

pub loop-r-preserved : goal.loop-r-preserved
loop-r-preserved c = λ roles start h.
    let twice = half_is c.sets_below.ensures.0 c.add_role.ensures in
    let size = length-take-le c.wide.result c.args.w (omega arith) in
    let without = h.each c.loop-r.r (omega arith) in
    let weight = get_or-take c.wide.result c.args.w c.loop-r.r 0 (omega arith) in
    let so_far = c.loop-r.invariant roles start h in
    elim c.if-weight-gt0.branch [
      | then-weight-gt0 w ↦ marked_next c.args.own roles c.args.w start c.args.end so_far twice without
          (with_weight c.args.w c.loop-r.r c.args.own weight w.if-weight-gt0.true w.with-is)
      | else-weight-gt0 w ↦ marked_next c.args.own roles c.args.w start c.args.end so_far twice without
          (with_none c.args.w c.loop-r.r c.args.own weight w.if-weight-gt0.false w.with-is)
    ]

pub returns : goal.returns
returns c = λ roles start h.
    let size = length-take-le c.wide.result c.args.w (omega arith) in
    let e : c.loop-r.r ≡ c.args.end = omega arith in
    marked_all c.args.own roles c.args.w start c.args.end c.requires (rw e at (c.loop-r.invariant roles start h))
