use Rattle.std.proofs.Common.{ℕ, suc, ◌+◌}
use Rattle.multisets.specs.Ranks.{starts, first}
use Rattle.multisets.specs.Values.{Held, Steps}
use Rattle.multisets.proofs.values.next_level.Given as goal

-- the blocks of the roles below r are made
abbrev pub invariant-loop-r : goal.invariant-loop-r
invariant-loop-r g l =
    (value : ℕ → ℕ → ℕ) → Held l.d l.end value l.initial.t (first l.d (suc l.n)) →
    Steps l.end l.n value (goal.F-pre g l.step) (goal.F-post g l.step) →
    Held l.d l.end value l.t (first l.d (suc l.n) + starts (suc l.n) l.r-counter)
