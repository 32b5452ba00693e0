-- The laws of new sheets and of the sheets that calls made.
use Prim.Native.Nat.{ℕ, ◌+◌, ◌*◌, ◌-◌, ◌≤◌}
use mathlib.Core.Bool.{Bool, true, false, cond}
use mathlib.Core.Path.{◌≡◌, refl, sym, ap, ◌∙◌}
use mathlib.Core.Logic.{◌↔◌}
use mathlib.Core.List.{List, [], ◌∷◌, ◌++◌, map}
use native.Mathlib.Nat.{suc-ne-zero}
use native.Mathlib.Omega.{arith}
use borrow.Author.Tests.{eqb-true, eq-eqb, ne_eqb}
use lib.ListN.{length, get_or, replicate}
use lib.Seq.{get_or-append-add}
use lib.Dec.{eqb}
use Rattle.folds.proofs.Lists.{zero_at}
use Rattle.weights.specs.declared.Context.{Context}
use Rattle.decision.specs.Groups.{entry_count}
use Rattle.decision.specs.Decision.{decision_of}
use Rattle.sheet.specs.declared.Sheet.{Sheet}
use Rattle.sheet.specs.Sheets.{held_on, holding, open_refusal, opened_for, opened, signed, withdrawn, asked}
use Rattle.sheet.specs.Signings.{Signing, signed_by, accepted, entries_of, sheet_with}
use Rattle.sheet.specs.Events.{Event, signs, withdraws, signing_of, standing, signatures, held_after, is_done}
use Rattle.sheet.specs.Events.{called, after_all, answered_done, Made, Orderly}
use Rattle.sheet.specs.Form.{bytes_of, bytes_after_all}
use Rattle.sheet.proofs.Holding.{holding_count, holding_size}
use Rattle.sheet.proofs.Standing.{entries_length, entries_count, held_with}
use Rattle.sheet.proofs.Choosing.{distinct_differ}
use Rattle.sheet.proofs.Withdrawing.{withdrawn_answer}
use Rattle.sheet.proofs.Happening.{Holdable, one_done, all_holdable, all_held, all_done}
use Rattle.sheet.proofs.Happening.{accepted_stand, accepted_done}

nothing_holdable : Holdable (standing [])
unfolding standing
nothing_holdable = record { few = omega arith; distinct = tt }

-- what a new sheet holds after a list of events is at most six signings, of different users
pub held_holdable : (es : List Event) → Holdable (held_after es)
held_holdable es = all_holdable es [] nothing_holdable

none_signed : (t : Bool) → ◌≡◌ {A = ℕ} (cond t 0 23) 23 → t ≡ false
none_signed true h = absurd (suc-ne-zero 22 (sym h))
none_signed false h = refl

-- a new sheet is for the permission asked for where the opening is done, else for permission 255; it holds nothing
module _ (b : List ℕ) (p : ℕ) where
  pub opened_done : open_refusal b p ≡ 0 → opened_for b p ≡ p
  unfolding opened_for
  opened_done h = rw h

  pub opened_refused : (open_refusal b p ≡ 0 → ⊥) → opened_for b p ≡ 255
  unfolding opened_for
  opened_refused h = rw (ne_eqb (open_refusal b p) 0 h)

  pub opened_new : (opened b p).sheet ≡ sheet_with (opened_for b p) []
  unfolding entries_of holding
  opened_new = refl

  module _ (es : List Event) where
    -- over every list of signings and withdrawals on a new sheet, it holds each accepted signature not withdrawn since,
    -- in order of acceptance, and its unused bytes are 0
    pub sheet_held : after_all (opened b p).sheet es ≡ sheet_with (opened_for b p) (held_after es)
    unfolding standing
    sheet_held = ap (λ (s : Sheet). after_all s es) opened_new ∙ all_held (opened_for b p) es [] nothing_holdable

    pub entries_held : held_on (after_all (opened b p).sheet es) ≡ entries_of (held_after es)
    entries_held = ap held_on sheet_held ∙ held_with (opened_for b p) (held_after es) (held_holdable es).few

    -- the signings to which the calls answer 0 are the accepted ones
    pub done_signatures : answered_done (opened b p).sheet es ≡ map signing_of (signatures es)
    unfolding standing
    done_signatures =
        ap (λ (s : Sheet). answered_done s es) opened_new ∙ all_done (opened_for b p) es [] nothing_holdable

    -- to the next event the call answers 0 exactly if a signing is accepted, or a withdrawal finds its user's signature
    pub next_done : (e : Event) →
        ((called (after_all (opened b p).sheet es) e).refusal ≡ 0) ↔ (is_done (held_after es) e ≡ true)
    next_done e =
        let is : eqb (called (after_all (opened b p).sheet es) e).refusal 0 ≡ is_done (held_after es) e =
        ap (λ (s : Sheet). eqb (called s e).refusal 0) sheet_held
        ∙ one_done (opened_for b p) (signatures es) (held_holdable es) e in
        (λ h. sym is ∙ eq-eqb _ _ h, λ h. eqb-true _ _ (is ∙ h))

    -- a withdrawal that finds none is answered 23
    pub next_23 : (u : ℕ) →
        ((withdrawn (after_all (opened b p).sheet es) u).refusal ≡ 23) ↔ (signed_by (held_after es) u ≡ false)
    next_23 u =
        let is : (withdrawn (after_all (opened b p).sheet es) u).refusal ≡ cond (signed_by (held_after es) u) 0 23 =
        ap (λ (s : Sheet). (withdrawn s u).refusal) sheet_held
        ∙ withdrawn_answer (opened_for b p) (held_after es) u (held_holdable es).few in
        (λ h. none_signed (signed_by (held_after es) u) (sym is ∙ h), λ h. is ∙ ap (λ (t : Bool). cond t 0 23) h)

  -- request One's: after every list of signings alone it holds exactly the accepted ones, to which `sign` answers 0
  module _ (xs : List Signing) where
    pub sheet_accepted : after_all (opened b p).sheet (map signs xs) ≡ sheet_with (opened_for b p) (accepted xs)
    sheet_accepted = sheet_held (map signs xs) ∙ ap (sheet_with (opened_for b p)) (accepted_stand xs)

    pub done_accepted : answered_done (opened b p).sheet (map signs xs) ≡ accepted xs
    done_accepted = done_signatures (map signs xs) ∙ accepted_done xs

-- each call makes such a sheet
pub made_open : (b : List ℕ) (p : ℕ) → Made (opened b p).sheet
unfolding after_all
made_open b p = record { base = b; permission = p; events = []; is = refl }

after_more : (s : Sheet) (es : List Event) (e : Event) →
    after_all s (es ++ (e ∷ [])) ≡ (called (after_all s es) e).sheet
unfolding after_all
after_more s [] e = refl
after_more s (d ∷ es) e = after_more (called s d).sheet es e

made_called : (s : Sheet) → Made s → (e : Event) → Made (called s e).sheet
made_called s m e =
    record {
      base = m.base;
      permission = m.permission;
      events = m.events ++ (e ∷ []);
      is =
          ap (λ (t : Sheet). (called t e).sheet) m.is
          ∙ sym (after_more (opened m.base m.permission).sheet m.events e);
    }

pub made_sign : (s : Sheet) → Made s → (b : List ℕ) (u r : ℕ) → Made (signed b s u r).sheet
unfolding called
made_sign s m b u r = made_called s m (signs (record { base = b; user = u; role = r }))

pub made_withdraw : (s : Sheet) → Made s → (u : ℕ) → Made (withdrawn s u).sheet
unfolding called
made_withdraw s m u = made_called s m (withdraws u)

-- a made sheet holds what stands after the events that made it
module _ {s : Sheet} (m : Made s) where
  pub made_is : s ≡ sheet_with (opened_for m.base m.permission) (held_after m.events)
  made_is = m.is ∙ sheet_held m.base m.permission m.events

-- a sheet that holds at most six signings of different users is orderly
with_clear : (p : ℕ) (xs : List Signing) (i : ℕ) → 2 * length xs ≤ i → get_or (sheet_with p xs).entries i 0 ≡ 0
unfolding holding
with_clear p xs i h =
    let n = 12 - length (entries_of xs) in
    let size = entries_length xs in
    let j : i ≡ length (entries_of xs) + (i - 2 * length xs) = omega (arith, size, h) in
    rw j (get_or-append-add (entries_of xs) (replicate n 0) (i - 2 * length xs) 0 ∙ zero_at n (i - 2 * length xs))

with_orderly : (p : ℕ) (xs : List Signing) → Holdable xs → Orderly (sheet_with p xs)
with_orderly p xs able =
    let held = held_with p xs able.few in
    let count = holding_count p (entries_of xs) (length xs) (entries_length xs) in
    record {
      size = holding_size p (entries_of xs) (length xs) (entries_length xs) able.few;
      few = rw count able.few;
      counted = ap entry_count held ∙ entries_count xs ∙ sym count;
      different = λ i j l k e.
          distinct_differ xs able.distinct i j l (rw count at k) (rw held at e);
      clear = λ i h. with_clear p xs i (rw count at h);
    }

-- a made sheet holds at most six entries, of different users; its count is their number and its unused bytes are 0
pub made_orderly : (s : Sheet) → Made s → Orderly s
made_orderly s m = rw (made_is m) (with_orderly _ (held_after m.events) (held_holdable m.events))

-- asking a made sheet is the decision for the accepted signatures not withdrawn since, in order of acceptance
pub made_asked : (s : Sheet) (m : Made s) (b : List ℕ) (at : Context) →
    asked b s at ≡ decision_of b at (opened_for m.base m.permission) (entries_of (held_after m.events))
unfolding holding
made_asked s m b at =
    let held = ap held_on m.is ∙ entries_held m.base m.permission m.events in
    let permission = ap (λ (t : Sheet). t.permission) (made_is m) in
    ap (λ (g : List ℕ). decision_of b at s.permission g) held
    ∙ ap (λ (p : ℕ). decision_of b at p (entries_of (held_after m.events))) permission

-- the same of the 14 bytes
bytes_after : (s : Sheet) (es : List Event) → bytes_after_all (bytes_of s) es ≡ bytes_of (after_all s es)
unfolding bytes_after_all after_all
bytes_after s [] = refl
bytes_after s (e ∷ es) = bytes_after (called s e).sheet es

pub bytes_held : (b : List ℕ) (p : ℕ) (es : List Event) →
    bytes_after_all (bytes_of (opened b p).sheet) es ≡ bytes_of (sheet_with (opened_for b p) (held_after es))
bytes_held b p es = bytes_after (opened b p).sheet es ∙ ap bytes_of (sheet_held b p es)
