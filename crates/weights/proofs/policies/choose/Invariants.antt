-- What is kept of the first i policies, of any type and of type 1.
use Rattle.weights.specs.Weights.{any_type, type_one}
use Rattle.weights.specs.Setting.{in_force_by}
use Rattle.weights.proofs.Resolving.{Keeps}
use Rattle.weights.proofs.policies.choose.Given as goal

abbrev pub invariant-loop-i : goal.invariant-loop-i
invariant-loop-i l = record {
  any : Keeps l.list (in_force_by l.contexts) any_type l.a l.i l.any.policy l.any.weight;
  one : Keeps l.list (in_force_by l.contexts) type_one l.a l.i l.one.policy l.one.weight;
}
