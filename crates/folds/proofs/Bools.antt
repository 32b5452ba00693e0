-- Facts on Bools that the laws of the folds and their callers share.
use mathlib.Core.Bool.{Bool, true, false, ◌&&◌, ◌||◌, not, cond, false≢true}
use mathlib.Core.Path.{◌≡◌, refl, sym, ◌∙◌}
use mathlib.Core.Logic.{◌⊎◌, inl, inr, ⊎_elim}
use Prim.Native.Nat.{ℕ, suc}
use native.Mathlib.Nat.{suc-ne-zero}
use borrow.Author.Tests.{lt-ltb, le-ltb, leb-true, leb-false, eqb-true, eqb-false, eq-eqb, ne_eqb}
use lib.Dec.{ltb, leb, eqb}

pub and_left : (a b : Bool) → (a && b) ≡ true → a ≡ true
and_left true b h = refl
and_left false b h = h

pub and_right : (a b : Bool) → (a && b) ≡ true → b ≡ true
and_right true b h = h
and_right false b h = absurd (false≢true h)

pub and_both : {a b : Bool} → a ≡ true → b ≡ true → (a && b) ≡ true
and_both {a} {b} h k = rw (h, k)

-- what follows from the second test follows behind the first
pub and_wider : (a b : Bool) {c : Bool} → (b ≡ true → c ≡ true) → (a && b) ≡ true → (a && c) ≡ true
and_wider a b wider h = and_both (and_left a b h) (wider (and_right a b h))

pub and_either : (a b : Bool) → (a && b) ≡ false → (a ≡ false) ⊎ (b ≡ false)
and_either true b h = inr h
and_either false b h = inl refl

pub or_left : (a b : Bool) → (a || b) ≡ false → a ≡ false
or_left true b h = h
or_left false b h = refl

pub or_right : (a b : Bool) → (a || b) ≡ false → b ≡ false
or_right true b h = absurd (false≢true (sym h))
or_right false b h = h

-- a conjunction whose first test fails or, that one met, its second; a disjunction whose first is met or its second
pub and_not_first : {a : Bool} (b : Bool) → a ≡ false → (a && b) ≡ false
and_not_first b h = rw h

pub and_not_second : {a b : Bool} → a ≡ true → b ≡ false → (a && b) ≡ false
and_not_second h k = rw (h, k)

pub or_first : {a : Bool} (b : Bool) → a ≡ true → (a || b) ≡ true
or_first b h = rw h

pub or_second : {a b : Bool} → a ≡ false → b ≡ true → (a || b) ≡ true
or_second h k = rw (h, k)

pub or_neither : {a b : Bool} → a ≡ false → b ≡ false → (a || b) ≡ false
or_neither h k = rw (h, k)

pub or_either : (a b : Bool) → (a || b) ≡ true → (a ≡ true) ⊎ (b ≡ true)
or_either true b h = inl refl
or_either false b h = inr h

pub or_last : {a b : Bool} → (a || b) ≡ true → a ≡ false → b ≡ true
or_last h k = rw k at h

-- a test is met or not
pub met_or_not : (a : Bool) → (a ≡ true) ⊎ (a ≡ false)
met_or_not true = inl refl
met_or_not false = inr refl

-- a test that can't be met fails
pub never_met : (a : Bool) → (a ≡ true → ⊥) → a ≡ false
never_met true h = absurd (h refl)
never_met false h = refl

pub clash : {A : Type 0} (a : Bool) → a ≡ true → a ≡ false → A
clash true h k = absurd (false≢true (sym k))
clash false h k = absurd (false≢true h)

-- a choice by a test that is met, and by one that is not
pub met : {t : Bool} {x : ℕ} (y : ℕ) → t ≡ true → x ≡ cond t x y
met y h = rw h

pub passed : {t : Bool} (x : ℕ) {y : ℕ} → t ≡ false → cond t x y ≡ y
passed x h = rw h

-- a refusal r goes before what follows where there is one, and what follows is left where there is none
pub refused : {r : ℕ} (y : ℕ) → (r ≡ 0 → ⊥) → r ≡ cond (not (eqb r 0)) r y
refused y h = rw (ne_eqb _ _ h)

pub unrefused : {r y : ℕ} → r ≡ 0 → cond (not (eqb r 0)) r y ≡ y
unrefused h = rw h

-- where a chain of refusals gives 0, its first link, a test or a refusal r, refuses nothing, and what follows gives 0
pub none_met : (t : Bool) (n : ℕ) {y : ℕ} → cond t (suc n) y ≡ 0 → (t ≡ false) × (y ≡ 0)
none_met true n h = absurd (suc-ne-zero n h)
none_met false n h = (refl, h)

pub none_refused : (r y : ℕ) → cond (not (eqb r 0)) r y ≡ 0 → (r ≡ 0) × (y ≡ 0)
none_refused r y h =
    ⊎_elim
    (λ e. let none = eqb-true r 0 e in (none, sym (unrefused none) ∙ h))
    (λ e. absurd (eqb-false r 0 e (rw e at h)))
    (met_or_not (eqb r 0))

-- two tests that are met together are one
pub same_test : (a b : Bool) → (a ≡ true → b ≡ true) → (b ≡ true → a ≡ true) → a ≡ b
same_test true b h k = sym (h refl)
same_test false true h k = k refl
same_test false false h k = refl

-- and so are two that fail together
pub same_failure : (a b : Bool) → (a ≡ false → b ≡ false) → (b ≡ false → a ≡ false) → a ≡ b
same_failure true true h k = refl
same_failure true false h k = k refl
same_failure false b h k = sym (h refl)

-- not below is at most the other way round
pub not_ltb : (a b : ℕ) → not (ltb a b) ≡ leb b a
not_ltb a b =
    ⊎_elim (λ h. rw (le-ltb a b (leb-true b a h), h)) (λ h. rw (lt-ltb a b (leb-false b a h), h)) (met_or_not (leb b a))

pub eqb_sym : (a b : ℕ) → eqb a b ≡ eqb b a
eqb_sym a b =
    same_test (eqb a b) (eqb b a) (λ h. eq-eqb b a (sym (eqb-true a b h))) (λ h. eq-eqb a b (sym (eqb-true b a h)))
