-- A permission's clauses, struck out of what is asked and of the caller's masks of the sums.
use Rattle.std.specs.Prelude.{ℕ, Bool, ◌≡◌, List, length}
use Rattle.masks.specs.declared.asked.Striking.{Striking}
use Rattle.masks.specs.Clauses.{StruckAll, NarrowedAll}

-- of the masks of each attribute, those of which the test doesn't hold keep only the clauses of `others`; `same` says
-- that before and after the masks of the sums are of the same loan
pub record StruckOut (stays : ℕ → ℕ → Bool) (others : ℕ) (was now : Striking) : Type 0 where
  pub same : now.sums.ghost_name ≡ was.sums.ghost_name
  pub all : StruckAll (length was.sums.now) stays others was.asked was.sums.now now.asked now.sums.now

-- they have those of the clauses `own` that are met
pub record AllStruck (k : List ℕ) (own : ℕ) (was now : Striking) : Type 0 where
  pub same : now.sums.ghost_name ≡ was.sums.ghost_name
  pub size : length now.sums.now ≡ length was.sums.now
  pub narrowed : NarrowedAll k own 0 (length was.sums.now) now.asked now.sums.now
