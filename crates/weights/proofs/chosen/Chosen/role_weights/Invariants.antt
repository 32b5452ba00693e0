-- The juniors below j have handed on.
use Rattle.weights.specs.Setting.{Summed}
use Rattle.weights.proofs.chosen.Chosen.role_weights.Given as goal

abbrev pub invariant-loop-j : goal.invariant-loop-j
invariant-loop-j l = Summed l.self.own l.self.inh l.juniors l.permission l.j l.w
