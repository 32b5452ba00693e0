-- Steps of the loops that stood where chains stand now; docs/PORT.md names them.
use Prim.Native.Nat.{ℕ}
use mathlib.Core.List.{List}
use mathlib.Core.Path.{◌≡◌, ap, ◌∙◌}
use lib.ListN.{length}
use Rattle.sheet.specs.Form.{bytes_of, sheet_of}
use Rattle.sheet.specs.Sheets.{Outcome}

-- the call gave the outcome due, whose refusal changes no sheet
pub record Gave (was : List ℕ) (due o : Outcome) : Type 0 where
  pub is : o ≡ due
  pub size : length was ≡ 14
  pub same : (due.refusal ≡ 0 → ⊥) → due.sheet ≡ sheet_of was

module _ {was : List ℕ} {due o : Outcome} (g : Gave was due o) where
  pub bytes_are : {bytes : List ℕ} → bytes ≡ bytes_of o.sheet → bytes ≡ bytes_of due.sheet
  bytes_are h = h ∙ ap (λ (o : Outcome). bytes_of o.sheet) g.is
