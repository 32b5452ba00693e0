-- A signing on a sheet that holds given signings is accepted exactly by the request's words.
use Prim.Native.Nat.{ℕ, ◌<◌, ◌≤◌}
use mathlib.Core.Bool.{Bool, true, false, ◌&&◌, not}
use mathlib.Core.Path.{◌≡◌, sym, ◌∙◌}
use mathlib.Core.List.{List, [], ◌∷◌, ◌++◌}
use native.Mathlib.Omega.{arith}
use borrow.Author.Tests.{ltb-true, lt-ltb, eqb-true, eq-eqb, not-true}
use lib.ListN.{length, length-append}
use lib.Dec.{eqb}
use Rattle.folds.proofs.Bools.{and_left, and_right, and_both, same_test}
use Rattle.sheet.specs.Sheets.{Outcome}
use Rattle.sheet.specs.Sheets.{signed}
use Rattle.sheet.specs.Signings.{Signing, signed_by, acceptable, entries_of, sheet_with}
use Rattle.sheet.proofs.Passing.{Passes, sign_passes, passes_sign}
use Rattle.sheet.proofs.Standing.{entries_count, stands_signed, held_with, with_more}

-- where all six tests are met, each is
each_met : (a b c d e f : Bool) → (a && (b && (c && (d && (e && f))))) ≡ true →
    (a ≡ true) × (b ≡ true) × (c ≡ true) × (d ≡ true) × (e ≡ true) × (f ≡ true)
each_met a b c d e f h =
    let past_a = and_right a _ h in
    let past_b = and_right b _ past_a in
    let past_c = and_right c _ past_b in
    let past_d = and_right d _ past_c in (
      and_left a _ h,
      and_left b _ past_a,
      and_left c _ past_b,
      and_left d _ past_c,
      and_left e _ past_d,
      and_right e f past_d,
    )

-- `sign` passes exactly the signings that the request's words accept
passes_acceptable : (xs : List Signing) (x : Signing) → Passes x.base (entries_of xs) x.user x.role →
    acceptable xs x ≡ true
unfolding acceptable
passes_acceptable xs x p =
    let new : not (signed_by xs x.user) ≡ true = rw (← stands_signed xs x.user, p.new) in
    let room = rw (entries_count xs) at p.room in
    and_both (eq-eqb _ _ p.ok)
    (and_both (lt-ltb _ _ p.user)
    (and_both (lt-ltb _ _ p.role)
    (and_both new
    (and_both p.acting (lt-ltb _ _ room)))))

acceptable_passes : (xs : List Signing) (x : Signing) → acceptable xs x ≡ true →
    Passes x.base (entries_of xs) x.user x.role
unfolding acceptable
acceptable_passes xs x h =
    let (ok, user, role, new, acting, room) = each_met _ _ _ _ _ _ h in
    record {
      ok = eqb-true _ _ ok;
      user = ltb-true _ _ user;
      role = ltb-true _ _ role;
      new = stands_signed xs x.user ∙ not-true _ new;
      acting = acting;
      room = rw (entries_count xs) (ltb-true _ _ room);
    }

room_left : (xs : List Signing) (x : Signing) → acceptable xs x ≡ true → length xs < 6
room_left xs x h = rw (entries_count xs) at (acceptable_passes xs x h).room

pub new_user : (xs : List Signing) (x : Signing) → acceptable xs x ≡ true → signed_by xs x.user ≡ false
new_user xs x h = sym (stands_signed xs x.user) ∙ (acceptable_passes xs x h).new

pub few_more : (xs : List Signing) (x : Signing) → acceptable xs x ≡ true → length (xs ++ (x ∷ [])) ≤ 6
few_more xs x h = let room = room_left xs x h in rw (length-append xs (x ∷ [])) (omega arith)

-- a signing on a sheet that holds the signings xs
module _ (p : ℕ) (xs : List Signing) (x : Signing) (few : length xs ≤ 6) where
  abbrev call : Outcome
  call = signed x.base (sheet_with p xs) x.user x.role

  -- its answer is 0 exactly if the request's words accept it
  pub done_acceptable : eqb call.refusal 0 ≡ acceptable xs x
  unfolding signed
  done_acceptable =
      rw (held_with p xs few)
      (same_test _ _
      (λ h. passes_acceptable xs x (sign_passes _ _ _ _ (eqb-true _ _ h)))
      (λ h. eq-eqb _ _ (passes_sign _ _ _ _ (acceptable_passes xs x h))))

  -- the sheet then holds it too, or is as it was
  pub signed_accepted : acceptable xs x ≡ true → call.sheet ≡ sheet_with p (xs ++ (x ∷ []))
  unfolding signed
  signed_accepted h = rw (done_acceptable ∙ h) (with_more p xs x (room_left xs x h))

  pub signed_unaccepted : acceptable xs x ≡ false → call.sheet ≡ sheet_with p xs
  unfolding signed
  signed_unaccepted h = rw (done_acceptable ∙ h)
