use Rattle.std.proofs.Common.{ℕ, ◌*◌, ◌≤◌, List, false, ◌≡◌}
use Rattle.folds.specs.Below.{any_below}
use Rattle.reader.specs.Tables.{table_start, table_bad}
use Rattle.reader.proofs.trailer.Trailer.tables_bad.Given as goal

-- the tables before t are in their places, and table t has to start at `at`
pub record Turn (b : List ℕ) (at t : ℕ) : Type 0 where
  pub within : t ≤ 7
  pub small : at ≤ 1024 * t
  pub at_is : at ≡ table_start b t
  pub fine : any_below t (table_bad b) ≡ false

abbrev pub invariant-loop-t : goal.invariant-loop-t
invariant-loop-t l = Turn l.self l.at l.t
