-- Those of a list of signings of which a test holds: their entries, their number and their users.
use Prim.Native.Nat.{ℕ, zero, suc, ◌<◌, ◌≤◌}
use mathlib.Core.Bool.{Bool, true, false, ◌&&◌, ◌||◌, not, cond, false≢true}
use mathlib.Core.Path.{◌≡◌, refl, sym, ap, ◌∙◌}
use mathlib.Core.List.{List, [], ◌∷◌, ◌++◌}
use native.Mathlib.Omega.{arith}
use borrow.Author.Tests.{eqb-true, eqb-false, ne_eqb}
use lib.ListN.{length}
use lib.Dec.{eqb}
use Rattle.folds.proofs.Bools.{or_neither, eqb_sym}
use Rattle.decision.specs.Groups.{entry_user}
use Rattle.decision.proofs.Front.{later_user}
use Rattle.sheet.specs.Sheets.{staying, is_another}
use Rattle.sheet.specs.Signings.{Signing, signed_by, entries_of}
use Rattle.sheet.proofs.Staying.{kept, staying_first}
use Rattle.sheet.proofs.Standing.{first_differs, later_unsigned, each_differs}

-- in their order
unfoldable pub those : (Signing → Bool) → List Signing → List Signing
those test [] = []
those test (x ∷ xs) = cond (test x) (x ∷ those test xs) (those test xs)

-- a signing by another user than u
abbrev pub another : ℕ → Signing → Bool
another u x = is_another u x.user x.role

module _ (test : Signing → Bool) where
  pub those_all : (xs : List Signing) → ((x : Signing) → test x ≡ true) → those test xs ≡ xs
  unfolding those
  those_all [] h = refl
  those_all (x ∷ xs) h = rw (h x) (ap (λ (l : List Signing). x ∷ l) (those_all xs h))

  -- those of those of which another test holds
  pub those_both : (other both : Signing → Bool) → ((x : Signing) → both x ≡ (test x && other x)) →
      (xs : List Signing) → those other (those test xs) ≡ those both xs
  unfolding those
  those_both other both h [] = refl
  those_both other both h (x ∷ xs) = by (test x) (h x) (those_both other both h xs)
    where
      by : (t : Bool) → both x ≡ (t && other x) → those other (those test xs) ≡ those both xs →
          those other (cond t (x ∷ those test xs) (those test xs)) ≡ cond (both x) (x ∷ those both xs) (those both xs)
      by true k e = rw (k, e)
      by false k e = rw (k, e)

  pub those_append : (xs ys : List Signing) → those test (xs ++ ys) ≡ those test xs ++ those test ys
  unfolding those
  those_append [] ys = refl
  those_append (x ∷ xs) ys = by (test x) (those_append xs ys)
    where
      by : (t : Bool) → those test (xs ++ ys) ≡ those test xs ++ those test ys →
          cond t (x ∷ those test (xs ++ ys)) (those test (xs ++ ys)) ≡
          cond t (x ∷ those test xs) (those test xs) ++ those test ys
      by true e = ap (λ (l : List Signing). x ∷ l) e
      by false e = e

  -- no more than there were
  pub those_few : (xs : List Signing) → length (those test xs) ≤ length xs
  unfolding those
  those_few [] = omega arith
  those_few (x ∷ xs) = by (test x) (those_few xs)
    where
      by : (t : Bool) → length (those test xs) ≤ length xs →
          length (cond t (x ∷ those test xs) (those test xs)) ≤ suc (length xs)
      by true l = omega arith
      by false l = omega arith

  -- none by a user who signed none of them
  those_unsigned : (xs : List Signing) (u : ℕ) → signed_by xs u ≡ false → signed_by (those test xs) u ≡ false
  unfolding those signed_by
  those_unsigned [] u h = refl
  those_unsigned (x ∷ xs) u h = by (test x) (those_unsigned xs u (later_unsigned x xs u h))
    where
      by : (t : Bool) → signed_by (those test xs) u ≡ false →
          signed_by (cond t (x ∷ those test xs) (those test xs)) u ≡ false
      by true e = or_neither (first_differs x xs u h) e
      by false e = e

-- where u signed none of them, all are by another
pub others_all : (u : ℕ) (xs : List Signing) → signed_by xs u ≡ false → those (another u) xs ≡ xs
unfolding those signed_by
others_all u [] h = refl
others_all u (x ∷ xs) h =
    rw (first_differs x xs u h) (ap (λ (l : List Signing). x ∷ l) (others_all u xs (later_unsigned x xs u h)))

-- by another than u, none is by u
pub others_unsigned : (u : ℕ) (xs : List Signing) → signed_by (those (another u) xs) u ≡ false
unfolding those signed_by
others_unsigned u [] = refl
others_unsigned u (x ∷ xs) = by (eqb x.user u) refl (others_unsigned u xs)
  where
    by : (t : Bool) → eqb x.user u ≡ t → signed_by (those (another u) xs) u ≡ false →
        signed_by (cond (not t) (x ∷ those (another u) xs) (those (another u) xs)) u ≡ false
    by true h e = e
    by false h e = or_neither h e

-- one by a user other than u stays
pub others_signed : (u v : ℕ) → (v ≡ u → ⊥) → (xs : List Signing) → signed_by (those (another u) xs) v ≡ signed_by xs v
unfolding those signed_by
others_signed u v ne [] = refl
others_signed u v ne (x ∷ xs) = by (eqb x.user u) refl (others_signed u v ne xs)
  where
    by : (t : Bool) → eqb x.user u ≡ t → signed_by (those (another u) xs) v ≡ signed_by xs v →
        signed_by (cond (not t) (x ∷ those (another u) xs) (those (another u) xs)) v ≡ (eqb x.user v || signed_by xs v)
    by true h e = let own = eqb-true x.user u h in rw (ne_eqb x.user v (λ k. ne (sym k ∙ own))) e
    by false h e = rw e

-- where u signed one of them, fewer are by another
pub others_fewer : (u : ℕ) (xs : List Signing) → signed_by xs u ≡ true → length (those (another u) xs) < length xs
unfolding those signed_by
others_fewer u [] h = absurd (false≢true h)
others_fewer u (x ∷ xs) h = by (eqb x.user u) h (λ k. others_fewer u xs k)
  where
    by : (t : Bool) → (t || signed_by xs u) ≡ true →
        (signed_by xs u ≡ true → length (those (another u) xs) < length xs) →
        length (cond (not t) (x ∷ those (another u) xs) (those (another u) xs)) < suc (length xs)
    by true k fewer = let few = those_few (another u) xs in omega arith
    by false k fewer = let l = fewer k in omega arith

-- their entries are those that stay
module _ (stays : ℕ → ℕ → Bool) where
  abbrev left : List Signing → List Signing
  left xs = those (λ x. stays x.user x.role) xs

  pub entries_staying : (xs : List Signing) → staying stays (entries_of xs) ≡ entries_of (left xs)
  unfolding those entries_of staying
  entries_staying [] = refl
  entries_staying (x ∷ xs) =
      staying_first stays x.user x.role (entries_of xs) ∙ by (stays x.user x.role) (entries_staying xs)
    where
      by : (t : Bool) → staying stays (entries_of xs) ≡ entries_of (left xs) →
          kept t x.user x.role ++ staying stays (entries_of xs) ≡ entries_of (cond t (x ∷ left xs) (left xs))
      by true e = ap (λ (l : List ℕ). x.user ∷ x.role ∷ l) e
      by false e = e

-- no two of the signings are by one user
abbrev pub Distinct : List Signing → Type 0
Distinct [] = Unit {0}
Distinct (x ∷ xs) = (signed_by xs x.user ≡ false) × Distinct xs

pub those_distinct : (test : Signing → Bool) (xs : List Signing) → Distinct xs → Distinct (those test xs)
unfolding those
those_distinct test [] d = d
those_distinct test (x ∷ xs) d = by (test x) (those_distinct test xs d.1)
  where
    by : (t : Bool) → Distinct (those test xs) → Distinct (cond t (x ∷ those test xs) (those test xs))
    by true e = (those_unsigned test xs x.user d.0, e)
    by false e = e

signed_more : (xs : List Signing) (x : Signing) (u : ℕ) →
    signed_by xs u ≡ false → eqb x.user u ≡ false → signed_by (xs ++ (x ∷ [])) u ≡ false
unfolding signed_by
signed_more [] x u h k = or_neither k refl
signed_more (y ∷ xs) x u h k = or_neither (first_differs y xs u h) (signed_more xs x u (later_unsigned y xs u h) k)

pub distinct_more : (xs : List Signing) (x : Signing) → signed_by xs x.user ≡ false → Distinct xs →
    Distinct (xs ++ (x ∷ []))
unfolding signed_by
distinct_more [] x new d = (refl, tt)
distinct_more (y ∷ xs) x new d =
    let differ = eqb_sym x.user y.user ∙ first_differs y xs x.user new in
    (signed_more xs x y.user d.0 differ, distinct_more xs x (later_unsigned y xs x.user new) d.1)

-- then no two of their entries are of one user
pub distinct_differ : (xs : List Signing) → Distinct xs → (i j : ℕ) → i < j → j < length xs →
    entry_user (entries_of xs) i ≡ entry_user (entries_of xs) j → ⊥
unfolding entries_of
distinct_differ [] d i j l m e = omega arith
distinct_differ (x ∷ xs) d i zero l m e = omega arith
distinct_differ (x ∷ xs) d zero (suc j) l m e =
    let same = later_user x.user x.role (entries_of xs) j in
    eqb-false _ _ (each_differs xs x.user d.0 j (omega arith)) (sym (e ∙ same))
distinct_differ (x ∷ xs) d (suc i) (suc j) l m e =
    let first = later_user x.user x.role (entries_of xs) i in
    let second = later_user x.user x.role (entries_of xs) j in
    distinct_differ xs d.1 i j (omega arith) (omega arith) (sym first ∙ e ∙ second)
