-- What stands before the base's last four bytes ends with the bytes at 29 to 31 of the trailer, which `reserved_bad`
-- tests one by one.
use Rattle.std.proofs.Common.{ℕ, ◌+◌, ◌-◌, ◌<◌, ◌≤◌, true, false, Bool, ◌&&◌, ◌||◌, List, [], ◌∷◌, ◌≡◌, ap, refl, ◌∙◌}
use Rattle.std.proofs.Common.{length, get_or, take, drop, length-drop, length-take, arith, rules}
use mathlib.Core.Bool.{not}
use native.Mathlib.Nat.{min-eq_left}
use lib.Dec.{eqb, lit<}
use Rattle.std.specs.Cmp.Lexicographic.{pointwise}
use Rattle.std.proofs.lemmas.List.{get_or-drop, get_or-take}
use Rattle.std.proofs.lemmas.Slice.Eq.{text_from_reads}
use Rattle.folds.specs.Below.{any_below}
use Rattle.folds.proofs.Bools.{eqb_sym}
use Rattle.reader.specs.Tables.{trailer, reserved_bad}
use Rattle.reader.proofs.trailer.Trailer.reserved_bad.Goals as goal

not_each : (p q r : Bool) → not (p && (q && (r && true))) ≡ ((not p || not q) || not r)
not_each false q r = refl
not_each true false r = refl
not_each true true r = search rules

module _ (b : List ℕ) (long : 36 ≤ length b) where
  abbrev at : ℕ
  at = trailer b + 29

  abbrev byte : ℕ → ℕ
  byte i = get_or b (at + i) 0

  abbrev front : List ℕ
  front = take (length b - 4) b

  front_length : length front ≡ at + 3
  front_length =
      let n : length front ≡ length b - 4 = length-take (length b - 4) b ∙ min-eq_left (omega arith) in
      omega arith

  read : (i : ℕ) → i < 3 → get_or (drop at front) i 0 ≡ byte i
  read i l = get_or-drop at front i 0 ∙ get_or-take (length b - 4) b (at + i) 0 (omega arith)

  last : drop (length front - 3) front ≡ byte 0 ∷ byte 1 ∷ byte 2 ∷ []
  last =
      let n = front_length in
      let e : length front - 3 ≡ at = omega arith in
      rw e (text_from_reads (drop at front) _ (omega (arith, length-drop at front))
      (read 0 (lit< tt), (read 1 (lit< tt), (read 2 (lit< tt), tt))))

  same : not (pointwise eqb (0 ∷ 0 ∷ 0 ∷ []) (drop (length front - 3) front)) ≡ reserved_bad b
  unfolding reserved_bad any_below
  same = rw (last, not_each, eqb_sym 0 (byte 0), eqb_sym 0 (byte 1), eqb_sym 0 (byte 2))

pub returns : goal.returns
returns c = ap not c.ends_with.ensures.value ∙ same _ c.self.invariant ∙ ap reserved_bad c.self.view_is
