-- The places before i are made.
use Rattle.std.proofs.Common.{ℕ, ◌≡◌, ◌<◌, List, length, get_or}
use Rattle.conflicts.proofs.filling.fill.Given as goal

pub record Made {A : Type 0} (Q : ℕ → A → Type 0) (n i : ℕ) (items : List A) : Type 0 where
  pub size : length items ≡ n
  pub each : (k : ℕ) (other : A) → k < i → Q k (get_or items k other)

abbrev pub invariant-loop-i : goal.invariant-loop-i
invariant-loop-i g l = Made (goal.F-post g l.make) (length l.initial.places) l.i l.places
