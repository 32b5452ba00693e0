-- What is written so far is what `step` makes of the values read.
use Rattle.std.proofs.Common.{ℕ, ◌<◌, ◌≡◌, get_or}
use Rattle.multisets.proofs.values.write_block.Given as goal

abbrev pub invariant-loop-j : goal.invariant-loop-j
invariant-loop-j g l = (f : ℕ → ℕ) →
    ((j y : ℕ) → j < l.count → goal.F-post g l.step (get_or l.values j 0) y → y ≡ f j) →
    (k : ℕ) → k < l.j → get_or l.block k 0 ≡ f k
