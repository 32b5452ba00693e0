-- The records of `rest` written from `next` on are those of the row written from `at` on.
use Rattle.std.proofs.Common.{◌≡◌, ℕ, ◌+◌, ◌<◌, List, length}
use Prim.Native.Nat.{◌^◌}
use Rattle.std.proofs.lemmas.List.Edits.{sets}
use Rattle.conflicts.specs.Rows.{row_records}
use Rattle.conflicts.proofs.writing.write_row.Given as goal

pub record Turn (out₀ : List ℕ) (at kind first row : ℕ) (out : List ℕ) (next rest : ℕ) : Type 0 where
  pub small : rest < 2 ^ 64
  pub place : next + length (row_records kind first rest) ≡ at + length (row_records kind first row)
  pub size : length out ≡ length out₀
  pub bytes : sets out next (row_records kind first rest) ≡ sets out₀ at (row_records kind first row)

abbrev pub invariant-loop-rest : goal.invariant-loop-rest
invariant-loop-rest l = Turn l.fn.out l.at l.kind l.first l.row l.out l.next l.rest

abbrev pub decreases-loop-rest : goal.decreases-loop-rest
decreases-loop-rest l = l.rest
