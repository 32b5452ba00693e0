-- 14 bytes are a sheet and a sheet is its bytes; a refused signing leaves them as they were.
use Prim.Native.Nat.{ℕ}
use mathlib.Core.Path.{◌≡◌, refl, sym, ap}
use mathlib.Core.List.{List, [], ◌∷◌}
use native.Mathlib.Omega.{arith}
use lib.ListN.{length}
use Rattle.sheet.specs.declared.Sheet.{Sheet}
use Rattle.sheet.specs.Sheets.{Outcome}
use Rattle.sheet.specs.Sheets.{signed}
use Rattle.sheet.specs.Form.{bytes_of, sheet_of}
use Rattle.sheet.proofs.Passing.{signed_refused}

pub bytes_of_sheet : (bytes : List ℕ) → length bytes ≡ 14 → bytes_of (sheet_of bytes) ≡ bytes
bytes_of_sheet [] h = absurd (omega (arith, h))
bytes_of_sheet (p ∷ []) h = absurd (omega (arith, h))
bytes_of_sheet (p ∷ c ∷ entries) h = refl

pub sheet_of_bytes : (s : Sheet) → sheet_of (bytes_of s) ≡ s
sheet_of_bytes s = refl

module _ (b : List ℕ) (s : Sheet) (u r : ℕ) where
  -- a refused signing gives the sheet as it was, every byte
  pub refused_same : ((signed b s u r).refusal ≡ 0 → ⊥) → (signed b s u r).sheet ≡ s
  unfolding signed
  refused_same h = sym (ap (λ (o : Outcome). o.sheet) (signed_refused b s u r refl h))
