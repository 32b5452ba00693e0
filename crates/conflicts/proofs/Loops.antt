-- Steps of the loops that stood where chains stand now; docs/PORT.md names them.
use Prim.Native.Nat.{ℕ, ◌≤◌}
use mathlib.Core.Bool.{Bool}
use mathlib.Core.Path.{◌≡◌, refl, ap, ◌∙◌}
use mathlib.Core.List.{List}
use native.Mathlib.Nat.{not-suc-le-zero}
use native.Mathlib.Omega.{arith}
use lib.ListN.{length, replicate}
use lib.Seq.{length-sets}
use Rattle.conflicts.specs.Rows.{Rows}
use Rattle.conflicts.proofs.Lists.{Wrote}

-- the first i of n rows, in 64 places
pub record FirstRows (n m : ℕ) (p : ℕ → ℕ → Bool) (rows : List ℕ) (i : ℕ) : Type 0 where
  pub within : i ≤ n
  pub size : length rows ≡ 64
  pub are : Rows i m p rows

pub no_rows : (n m : ℕ) (p : ℕ → ℕ → Bool) → FirstRows n m p (replicate {A = ℕ} 64 0) 0
no_rows n m p =
    record { within = omega arith; size = refl; are = record { row = λ i j l. absurd (not-suc-le-zero l) } }

-- what is written over a list leaves its length
pub same_size : {out xs now : List ℕ} {at next : ℕ} → Wrote out at xs now next → length now ≡ length out
same_size {out} {xs} {now} {at} w = ap length w.bytes ∙ length-sets out at xs
