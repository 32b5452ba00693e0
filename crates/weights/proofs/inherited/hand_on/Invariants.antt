-- Each turn gives one role its share: the roles below r have theirs.
use Rattle.weights.specs.Setting.{HandedOn}
use Rattle.weights.proofs.inherited.hand_on.Given as goal

abbrev pub invariant-loop-r : goal.invariant-loop-r
invariant-loop-r l = HandedOn l.juniors l.j l.x l.r l.initial.w l.w
