-- Each turn doubles the sets by one role more.
use Rattle.std.proofs.Common.{List, ℕ}
use Rattle.masks.specs.Sets.{Without}
use Rattle.masks.proofs.SetMasks.{MarkedTo}
use Rattle.masks.proofs.sets.mark_sets.Given as goal

abbrev pub invariant-loop-r : goal.invariant-loop-r
invariant-loop-r l =
    (roles : List ℕ) (start : ℕ) → Without l.own roles start l.without →
    MarkedTo l.own roles l.fn.w start l.end l.r l.sets
