-- The bytes of a list of signings, and the sheet that holds them.
use Prim.Native.Nat.{ℕ, zero, suc, ◌*◌, ◌<◌, ◌≤◌}
use mathlib.Core.Bool.{Bool, false}
use mathlib.Core.Path.{◌≡◌, refl, sym, ap, ◌∙◌}
use mathlib.Core.List.{List, [], ◌∷◌, ◌++◌}
use native.Mathlib.Omega.{arith}
use lib.ListN.{length}
use lib.Dec.{eqb}
use Rattle.folds.proofs.Bools.{or_left, or_right, or_neither, same_failure}
use Rattle.folds.proofs.Tests.{any_at, any_each}
use Rattle.decision.specs.Groups.{entry_count, entry_user}
use Rattle.decision.proofs.Front.{later_user}
use Rattle.sheet.specs.Sheets.{held_on, stands_in, holding, with_entry}
use Rattle.sheet.specs.Signings.{Signing, signed_by, entries_of, sheet_with}
use Rattle.sheet.proofs.Holding.{holding_held, holding_more}

-- the entries' bytes of a list of signings
pub entries_length : (xs : List Signing) → length (entries_of xs) ≡ 2 * length xs
unfolding entries_of
entries_length [] = refl
entries_length (x ∷ xs) = let e = entries_length xs in omega arith

entries_more : (xs : List Signing) (x : Signing) →
    entries_of (xs ++ (x ∷ [])) ≡ entries_of xs ++ (x.user ∷ x.role ∷ [])
unfolding entries_of
entries_more [] x = refl
entries_more (y ∷ xs) x = ap (λ (l : List ℕ). y.user ∷ y.role ∷ l) (entries_more xs x)

pub entries_count : (xs : List Signing) → entry_count (entries_of xs) ≡ length xs
entries_count xs = let e = entries_length xs in omega arith

-- where none of a list is by user u, neither the first is nor any behind it
module _ (x : Signing) (xs : List Signing) (u : ℕ) (h : signed_by (x ∷ xs) u ≡ false) where
  pub first_differs : eqb x.user u ≡ false
  unfolding signed_by
  first_differs = or_left (eqb x.user u) _ h

  pub later_unsigned : signed_by xs u ≡ false
  unfolding signed_by
  later_unsigned = or_right (eqb x.user u) _ h

-- a user stands in the entries exactly if one of the signings is by that user
none_signed : (xs : List Signing) (u : ℕ) →
    ((i : ℕ) → i < length xs → eqb (entry_user (entries_of xs) i) u ≡ false) → signed_by xs u ≡ false
unfolding entries_of signed_by
none_signed [] u h = refl
none_signed (x ∷ xs) u h =
    or_neither (h 0 (omega arith))
    (none_signed xs u (λ i l. rw (← later_user x.user x.role (entries_of xs) i) (h (suc i) (omega arith))))

pub each_differs : (xs : List Signing) (u : ℕ) → signed_by xs u ≡ false →
    (i : ℕ) → i < length xs → eqb (entry_user (entries_of xs) i) u ≡ false
unfolding entries_of signed_by
each_differs [] u h i l = absurd (omega arith)
each_differs (x ∷ xs) u h zero l = first_differs x xs u h
each_differs (x ∷ xs) u h (suc i) l =
    rw (later_user x.user x.role (entries_of xs) i)
    (each_differs xs u (later_unsigned x xs u h) i (omega arith))

pub stands_signed : (xs : List Signing) (u : ℕ) → stands_in (entries_of xs) u ≡ signed_by xs u
unfolding stands_in
stands_signed xs u =
    let by_user : ℕ → Bool = λ i. eqb (entry_user (entries_of xs) i) u in
    let n = entries_count xs in
    same_failure (stands_in (entries_of xs) u) (signed_by xs u)
    (λ h. none_signed xs u (λ i l. any_at by_user (entry_count (entries_of xs)) h i (rw n l)))
    (λ h. any_each by_user (entry_count (entries_of xs)) (λ i l. each_differs xs u h i (rw n at l)))

-- such a sheet holds its signings' entries
pub held_with : (p : ℕ) (xs : List Signing) → length xs ≤ 6 → held_on (sheet_with p xs) ≡ entries_of xs
held_with p xs few = holding_held p (entries_of xs) (length xs) (entries_length xs) few

-- one signing more
pub with_more : (p : ℕ) (xs : List Signing) (x : Signing) → length xs < 6 →
    with_entry (sheet_with p xs) x.user x.role ≡ sheet_with p (xs ++ (x ∷ []))
with_more p xs x room =
    holding_more p (entries_of xs) (length xs) (entries_length xs) x.user x.role room
    ∙ ap (holding p) (sym (entries_more xs x))
