-- A signing taken back at once; and what users meet after a withdrawal, on any sheet of 12 entry bytes.
use Prim.Native.Nat.{ℕ, ◌*◌, ◌-◌, ◌<◌, ◌≤◌}
use mathlib.Core.Bool.{true, false, or-true}
use mathlib.Core.Path.{◌≡◌, refl, sym, ap, ◌∙◌}
use mathlib.Core.Logic.{◌↔◌, ⊎_elim}
use mathlib.Core.List.{List, [], ◌∷◌, ◌++◌, append-nil}
use native.Mathlib.Nat.{le_trans, suc-ne-zero}
use native.Mathlib.Omega.{arith}
use borrow.Author.Tests.{eq-eqb}
use lib.ListN.{length}
use Rattle.folds.proofs.Bools.{met_or_not, or_first}
use Rattle.reader.specs.Tables.{role_count, user_count}
use Rattle.reader.specs.Rules.{refusal_of}
use Rattle.weights.specs.Acting.{may_act}
use Rattle.decision.specs.Groups.{entry_count}
use Rattle.sheet.specs.declared.Sheet.{Sheet}
use Rattle.sheet.specs.Sheets.{held_on, holding, stands_in, signed, withdrawn}
use Rattle.sheet.specs.Signings.{Signing, signed_by, acceptable, entries_of, sheet_with}
use Rattle.sheet.specs.Events.{Made, held_after}
use Rattle.sheet.proofs.Holding.{held_few, held_length}
use Rattle.sheet.proofs.Passing.{sign_passes, passes_sign}
use Rattle.sheet.proofs.Standing.{entries_length, entries_count, stands_signed, held_with}
use Rattle.sheet.proofs.Accepting.{done_acceptable, signed_accepted, few_more, new_user}
use Rattle.sheet.proofs.Choosing.{those, another, those_append, those_few, others_all, others_unsigned}
use Rattle.sheet.proofs.Choosing.{others_fewer, others_signed}
use Rattle.sheet.proofs.Withdrawing.{withdrawn_done, answer_23, sheet_kept, sheet_left, left_is, stands_with}
use Rattle.sheet.proofs.Making.{made_is, held_holdable}

-- a signing on a sheet that holds the signings xs, and the withdrawal of its user
signed_last : (xs : List Signing) (x : Signing) → signed_by (xs ++ (x ∷ [])) x.user ≡ true
unfolding signed_by
signed_last [] x = or_first false (eq-eqb x.user x.user refl)
signed_last (y ∷ xs) x = rw (signed_last xs x, or-true)

module _ (xs : List Signing) (x : Signing) (new : signed_by xs x.user ≡ false) where
  without_last : those (another x.user) (xs ++ (x ∷ [])) ≡ xs
  unfolding those
  without_last =
      let same = eq-eqb x.user x.user refl in
      those_append (another x.user) xs (x ∷ [])
      ∙ rw same (append-nil (those (another x.user) xs) ∙ others_all x.user xs new)

back_with : (p : ℕ) (xs : List Signing) (x : Signing) → length xs ≤ 6 → acceptable xs x ≡ true →
    withdrawn (signed x.base (sheet_with p xs) x.user x.role).sheet x.user ≡
    record { refusal = 0; sheet = sheet_with p xs }
unfolding holding
back_with p xs x few done =
    let u = x.user in
    let more : List Signing = xs ++ (x ∷ []) in
    let six = few_more xs x done in
    let stands = stands_with p more u six ∙ signed_last xs x in
    let left = left_is p u more (held_with p more six) ∙ ap (sheet_with p) (without_last xs x (new_user xs x done)) in
    ap (λ (s : Sheet). withdrawn s u) (signed_accepted p xs x few done)
    ∙ sym (withdrawn_done (sheet_with p more) u stands (sym left))

-- an accepted signing followed at once by the same user's withdrawal gives back the sheet as it was, every byte
pub back_at_once : (s : Sheet) → Made s → (b : List ℕ) (u r : ℕ) → (signed b s u r).refusal ≡ 0 →
    withdrawn (signed b s u r).sheet u ≡ record { refusal = 0; sheet = s }
back_at_once s m b u r done =
    let x : Signing = record { base = b; user = u; role = r } in
    let few = (held_holdable m.events).few in
    let is = made_is m in
    let answer = ap (λ (t : Sheet). (signed b t u r).refusal) (sym is) ∙ done in
    let ok = sym (done_acceptable _ (held_after m.events) x few) ∙ eq-eqb _ _ answer in
    ap (λ (t : Sheet). withdrawn (signed b t u r).sheet u) is ∙ back_with _ (held_after m.events) x few ok
    ∙ ap (λ (t : Sheet). record { refusal = 0; sheet = t }) (sym is)

-- whatever signings the entries held are those of: after a withdrawal that is done the sheet is for the same
-- permission and holds the entries of those by all others, in their order
module _ (s : Sheet) (u : ℕ) (size : length s.entries ≡ 12)
    (xs : List Signing) (held_is : held_on s ≡ entries_of xs) where
  few_held : length xs ≤ 6
  few_held =
      let long = sym (entries_length xs) ∙ ap (λ (l : List ℕ). length l) (sym held_is) in
      omega (arith, long, held_length s.count s.entries size, held_few s.count)

  others_few : length (those (another u) xs) ≤ 6
  others_few = le_trans (those_few (another u) xs) few_held

  withdrawn_is : stands_in (held_on s) u ≡ true → (withdrawn s u).sheet ≡ sheet_with s.permission (those (another u) xs)
  withdrawn_is h = sheet_left s u h ∙ left_is s.permission u xs held_is

  pub entries_left : stands_in (held_on s) u ≡ true →
      (held_on (withdrawn s u).sheet ≡ entries_of (those (another u) xs)) ×
      ((withdrawn s u).sheet.permission ≡ s.permission)
  unfolding holding
  entries_left h =
      let is = withdrawn_is h in (
        ap held_on is ∙ held_with s.permission (those (another u) xs) others_few,
        ap (λ (t : Sheet). t.permission) is,
      )

-- any entries as signings, against no base
unfoldable signings_in : List ℕ → List Signing
signings_in [] = []
signings_in (u ∷ []) = []
signings_in (u ∷ r ∷ l) = record { base = []; user = u; role = r } ∷ signings_in l

entries_in : (l : List ℕ) (n : ℕ) → length l ≡ 2 * n → l ≡ entries_of (signings_in l)
unfolding signings_in entries_of
entries_in [] n h = refl
entries_in (u ∷ []) n h = absurd (omega arith)
entries_in (u ∷ r ∷ l) n h = ap (λ (t : List ℕ). u ∷ r ∷ t) (entries_in l (n - 1) (omega arith))

module _ (s : Sheet) (u : ℕ) (size : length s.entries ≡ 12) where
  abbrev xs : List Signing
  xs = signings_in (held_on s)

  abbrev others : List Signing
  others = those (another u) xs

  held_in : held_on s ≡ entries_of xs
  held_in = entries_in (held_on s) _ (held_length s.count s.entries size)

  few : length others ≤ 6
  few = others_few s u size xs held_in

  left_in : stands_in (held_on s) u ≡ true → (withdrawn s u).sheet ≡ sheet_with s.permission others
  left_in = withdrawn_is s u size xs held_in

  others_stand : stands_in (held_on (sheet_with s.permission others)) u ≡ false
  others_stand = stands_with s.permission others u few ∙ others_unsigned u xs

  -- so the next withdrawal of that user is 23
  pub then_23 : (withdrawn (withdrawn s u).sheet u).refusal ≡ 23
  then_23 =
      ⊎_elim
      (λ h. ap (λ (t : Sheet). (withdrawn t u).refusal) (left_in h) ∙ answer_23 _ u others_stand)
      (λ h. ap (λ (t : Sheet). (withdrawn t u).refusal) (sheet_kept s u h) ∙ answer_23 s u h)
      (met_or_not (stands_in (held_on s) u))

  stood : (withdrawn s u).refusal ≡ 0 → stands_in (held_on s) u ≡ true
  stood done =
      ⊎_elim (λ h. h)
      (λ h. absurd (suc-ne-zero 22 (sym (answer_23 s u h) ∙ done)))
      (met_or_not (stands_in (held_on s) u))

  room_again : stands_in (held_on s) u ≡ true → entry_count (held_on (withdrawn s u).sheet) < 6
  room_again h =
      let count = ap entry_count (ap held_on (left_in h) ∙ held_with s.permission others few) in
      let signer = sym (stands_signed xs u) ∙ ap (λ (g : List ℕ). stands_in g u) (sym held_in) ∙ h in
      omega (arith, count, entries_count others, others_fewer u xs signer, few_held s u size xs held_in)

  -- and the user may sign again: neither 14 nor 20 applies
  pub sign_again : (withdrawn s u).refusal ≡ 0 → (b : List ℕ) (r : ℕ) →
      ((signed b (withdrawn s u).sheet u r).refusal ≡ 0) ↔
      ((refusal_of b ≡ 0) × (u < user_count b) × (r < role_count b) × (may_act b u r ≡ true))
  unfolding signed
  sign_again done b r =
      let h = stood done in
      let held : List ℕ = held_on (withdrawn s u).sheet in
      let new = ap (λ (t : Sheet). stands_in (held_on t) u) (left_in h) ∙ others_stand in (
        λ e. let p = sign_passes b held u r e in (p.ok, p.user, p.role, p.acting),
        λ w.
            passes_sign b held u r
            (record { ok = w.0; user = w.1; role = w.2; new = new; acting = w.3; room = room_again h }),
      )

  -- every other user stands there exactly if before
  pub others_stay : (v : ℕ) → (v ≡ u → ⊥) → stands_in (held_on (withdrawn s u).sheet) v ≡ stands_in (held_on s) v
  others_stay v ne =
      ⊎_elim
      (λ h.
      ap (λ (t : Sheet). stands_in (held_on t) v) (left_in h)
      ∙ stands_with s.permission others v few
      ∙ others_signed u v ne xs
      ∙ sym (ap (λ (g : List ℕ). stands_in g v) held_in ∙ stands_signed xs v))
      (λ h. ap (λ (t : Sheet). stands_in (held_on t) v) (sheet_kept s u h))
      (met_or_not (stands_in (held_on s) u))
