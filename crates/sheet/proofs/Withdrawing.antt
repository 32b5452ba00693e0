-- What a withdrawal gives: of any sheet, and of one that holds given signings.
use Prim.Native.Nat.{ℕ, ◌≤◌}
use mathlib.Core.Bool.{Bool, true, false, cond}
use mathlib.Core.Path.{◌≡◌, refl, sym, ap, ◌∙◌}
use mathlib.Core.Logic.{⊎_elim}
use mathlib.Core.List.{List}
use lib.ListN.{length}
use lib.Dec.{eqb}
use Rattle.folds.proofs.Bools.{met_or_not}
use Rattle.sheet.specs.declared.Sheet.{Sheet}
use Rattle.sheet.specs.Sheets.{Outcome}
use Rattle.sheet.specs.Sheets.{held_on, holding, stands_in, is_another, entries_without, withdrawn}
use Rattle.sheet.specs.Signings.{Signing, signed_by, entries_of, sheet_with}
use Rattle.sheet.proofs.Standing.{stands_signed, held_with}
use Rattle.sheet.proofs.Choosing.{those, another, others_all, entries_staying}

-- 23 gives the sheet as it was; a user who has an entry is withdrawn
module _ (s : Sheet) (u : ℕ) where
  pub withdrawn_refused : stands_in (held_on s) u ≡ false →
      ◌≡◌ {A = Outcome} (record { refusal = 23; sheet = s }) (withdrawn s u)
  unfolding withdrawn
  withdrawn_refused h = rw h

  pub withdrawn_done : {left : Sheet} → stands_in (held_on s) u ≡ true →
      left ≡ holding s.permission (entries_without u (held_on s)) →
      ◌≡◌ {A = Outcome} (record { refusal = 0; sheet = left }) (withdrawn s u)
  unfolding withdrawn
  withdrawn_done h e = rw (h, e)

  -- the same, field by field
  pub answer_23 : stands_in (held_on s) u ≡ false → (withdrawn s u).refusal ≡ 23
  answer_23 h = sym (ap (λ (o : Outcome). o.refusal) (withdrawn_refused h))

  pub sheet_kept : stands_in (held_on s) u ≡ false → (withdrawn s u).sheet ≡ s
  sheet_kept h = sym (ap (λ (o : Outcome). o.sheet) (withdrawn_refused h))

  pub sheet_left : stands_in (held_on s) u ≡ true →
      (withdrawn s u).sheet ≡ holding s.permission (entries_without u (held_on s))
  sheet_left h = sym (ap (λ (o : Outcome). o.sheet) (withdrawn_done h refl))

  -- a refused withdrawal gives the sheet as it was, every byte
  pub withdrawn_same : ((withdrawn s u).refusal ≡ 0 → ⊥) → (withdrawn s u).sheet ≡ s
  withdrawn_same h =
      ⊎_elim
      (λ t. absurd (h (sym (ap (λ (o : Outcome). o.refusal) (withdrawn_done t refl)))))
      sheet_kept
      (met_or_not (stands_in (held_on s) u))

-- entries that are those of signings: without the user's they are those by all others
pub left_is : (p u : ℕ) {held : List ℕ} (xs : List Signing) → held ≡ entries_of xs →
    holding p (entries_without u held) ≡ sheet_with p (those (another u) xs)
left_is p u xs e =
    ap (λ (g : List ℕ). holding p (entries_without u g)) e ∙ ap (holding p) (entries_staying (is_another u) xs)

-- of a sheet that holds the signings xs, user u withdrawn
module _ (p : ℕ) (xs : List Signing) (u : ℕ) (few : length xs ≤ 6) where
  abbrev sheet : Sheet
  sheet = sheet_with p xs

  pub stands_with : stands_in (held_on sheet) u ≡ signed_by xs u
  stands_with = ap (λ (g : List ℕ). stands_in g u) (held_with p xs few) ∙ stands_signed xs u

  -- the answer is 0 exactly if one of them is by that user, else 23
  pub withdrawn_answer : (withdrawn sheet u).refusal ≡ cond (signed_by xs u) 0 23
  unfolding withdrawn
  withdrawn_answer = ap (λ (t : Bool). cond t 0 23) stands_with

  pub withdrawn_signed : eqb (withdrawn sheet u).refusal 0 ≡ signed_by xs u
  withdrawn_signed = ap (λ (n : ℕ). eqb n 0) withdrawn_answer ∙ by (signed_by xs u)
    where
      by : (t : Bool) → eqb (cond t 0 23) 0 ≡ t
      by true = refl
      by false = refl

  -- the sheet then holds those by all others
  pub withdrawn_others : (withdrawn sheet u).sheet ≡ sheet_with p (those (another u) xs)
  unfolding holding
  withdrawn_others =
      ⊎_elim
      (λ t. sheet_left sheet u t ∙ left_is p u xs (held_with p xs few))
      (λ t. sheet_kept sheet u t ∙ ap (sheet_with p) (sym (others_all u xs (sym stands_with ∙ t))))
      (met_or_not (stands_in (held_on sheet) u))
