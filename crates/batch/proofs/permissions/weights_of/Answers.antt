-- Permission by permission: each that is asked for has its weights written in their place.
use Rattle.std.proofs.Common.{rules, arith, ◌≡◌, ◌<◌, sym, length}
use Rattle.batch.proofs.Weighing.{few_permissions, none_weighed, not_weighed, one_weighed}
use Rattle.batch.proofs.permissions.weights_of.Goals as goal
use Rattle.batch.proofs.permissions.weights_of.Goals.{then-in_set, else-in_set}

pub loop-permission-init : goal.loop-permission-init
loop-permission-init c = none_weighed c.args.base.now c.args.s.at c.args.asked

pub in_set-requires : goal.in_set-requires
in_set-requires c =
    let few = few_permissions c.args.base.now c.requires.0 in
    omega (arith, c.permission_count-permission-end.ensures, few)

pub slice_bounds-weights-end : goal.slice_bounds-weights-end
slice_bounds-weights-end c =
    let few = few_permissions c.args.base.now c.requires.0 in
    search rules

pub loop-permission-preserved : goal.loop-permission-preserved
loop-permission-preserved c = elim c.if-in_set.branch [
  | then-in_set w ↦
      let few = few_permissions c.args.base.now c.requires.0 in
      let there : c.loop-permission.permission < 16 =
      omega (arith, c.loop-permission-test.true, c.permission_count-permission-end.ensures, few) in
      let size : length w.role_weights.result ≡ 8 = search rules in
      rw w.weights-is (one_weighed c.args.base.now c.args.s.at c.args.asked c.loop-permission.invariant
      c.requires.0 there c.requires.2
      (w.role_weights.ensures _ _ _ c.requires.0 c.choose-chosen.ensures c.requires.1.juniors) size
      w.copy_from_slice.ensures.after w.wide-at.ensures.0)
  | else-in_set w ↦
      rw w.weights-is
      (not_weighed c.args.base.now c.args.s.at c.args.asked c.loop-permission.invariant (sym w.if-in_set.ensures))
]
