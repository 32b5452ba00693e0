-- The base's last four bytes are those at 32 to 35 of the trailer, which `letters_bad` tests one by one.
use Rattle.std.proofs.Common.{ℕ, ◌+◌, ◌-◌, ◌≤◌, true, false, Bool, ◌&&◌, ◌||◌, List, [], ◌∷◌, ◌≡◌, ap, refl, ◌∙◌}
use Rattle.std.proofs.Common.{length, get_or, drop, length-drop, arith, rules}
use mathlib.Core.Bool.{not}
use lib.Dec.{eqb}
use Rattle.std.specs.Cmp.Lexicographic.{pointwise}
use Rattle.std.proofs.lemmas.List.{get_or-drop}
use Rattle.std.proofs.lemmas.Slice.Eq.{text_from_reads}
use Rattle.folds.specs.Below.{any_below}
use Rattle.folds.proofs.Bools.{eqb_sym}
use Rattle.reader.specs.Tables.{trailer, letters, letters_bad}
use Rattle.reader.proofs.trailer.Trailer.letters_bad.Goals as goal

not_each : (p q r s : Bool) → not (p && (q && (r && (s && true)))) ≡ (((not p || not q) || not r) || not s)
not_each false q r s = refl
not_each true false r s = refl
not_each true true false s = refl
not_each true true true s = search rules

module _ (b : List ℕ) (long : 36 ≤ length b) where
  abbrev at : ℕ
  at = trailer b + 32

  abbrev byte : ℕ → ℕ
  byte i = get_or b (at + i) 0

  read : (i : ℕ) → get_or (drop at b) i 0 ≡ byte i
  read i = get_or-drop at b i 0

  last : drop (length b - 4) b ≡ byte 0 ∷ byte 1 ∷ byte 2 ∷ byte 3 ∷ []
  last =
      let e : length b - 4 ≡ at = omega arith in
      rw e (text_from_reads (drop at b) _ (omega (arith, length-drop at b)) (read 0, (read 1, (read 2, (read 3, tt)))))

  same : not (pointwise eqb letters (drop (length b - 4) b)) ≡ letters_bad b
  unfolding letters_bad any_below
  same = rw (last, not_each, eqb_sym 76, eqb_sym 67, eqb_sym 65, eqb_sym 81)

pub returns : goal.returns
returns c = ap not c.ends_with.ensures.value ∙ same _ c.self.invariant ∙ ap letters_bad c.self.view_is
