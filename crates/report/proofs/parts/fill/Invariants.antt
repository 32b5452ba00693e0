-- By each decision by which it is ready, it stays so, the parts of the permissions below p stand in the buffer, and
-- those with a group are counted.
use Prim.Native.Nat.{ℕ}
use Rattle.report.specs.Smallest.{Deciding}
use Rattle.report.specs.Parts.{FilledBy}
use Rattle.report.proofs.parts.fill.Given as goal

abbrev pub invariant-loop-p : goal.invariant-loop-p
invariant-loop-p g l =
    (from : ℕ) (decision : Deciding) → g.T.Parts.ready from decision l.permissions l.initial.parts →
    g.T.Parts.ready from decision l.permissions l.parts × FilledBy from decision l.p l.initial.out l.out l.count
