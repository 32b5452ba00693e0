-- Laws of the tests below n: all, any, first.
use Prim.Native.Nat.{ℕ, zero, suc, ◌+◌, ◌<◌, ◌≤◌}
use mathlib.Core.Bool.{Bool, true, false, and-false, or-true, cond, ◌||◌, or-false, or_assoc}
use mathlib.Core.Path.{◌≡◌, refl, sym}
use mathlib.Core.Logic.{⊎_elim}
use native.Mathlib.Numerals.{add-one}
use native.Mathlib.Nat.{eq-or-lt_of_le, le_of_suc-le-suc, not-suc-le-zero, lt_irrefl}
use native.Mathlib.Omega.{arith}
use Rattle.folds.specs.Below.{all_below, any_below, first_below}
use Rattle.folds.proofs.Bools.{and_left, and_right, or_left, or_right, or_either, clash, and_either}

-- a number below n + 1 is n or below n
pub split : {A : Type 0} {i n : ℕ} → i < suc n → (i ≡ n → A) → (i < n → A) → A
split h last low = ⊎_elim last low (eq-or-lt_of_le (le_of_suc-le-suc h))

module _ (p : ℕ → Bool) where
  pub all_none : all_below 0 p ≡ true
  unfolding all_below
  all_none = refl

  pub all_more : (i : ℕ) → all_below i p ≡ true → p i ≡ true → all_below (i + 1) p ≡ true
  unfolding all_below
  all_more i h e = rw (add-one, h, e)

  pub all_stop : (n i : ℕ) → i < n → p i ≡ false → all_below n p ≡ false
  unfolding all_below
  all_stop zero i h e = elim (not-suc-le-zero h) [ ]
  all_stop (suc n) i h e = split h (λ q. rw (← q, e, and-false)) (λ l. rw (all_stop n i l e))

  -- what is true of all below n is true of each
  pub all_at : (n : ℕ) → all_below n p ≡ true → (i : ℕ) → i < n → p i ≡ true
  unfolding all_below
  all_at zero h i k = elim (not-suc-le-zero k) [ ]
  all_at (suc n) h i k =
      split k (λ q. rw q (and_right (all_below n p) (p n) h)) (λ l. all_at n (and_left (all_below n p) (p n) h) i l)

  pub all_each : (n : ℕ) → ((i : ℕ) → i < n → p i ≡ true) → all_below n p ≡ true
  unfolding all_below
  all_each zero h = refl
  all_each (suc n) h = rw (all_each n (λ i l. h i (omega arith)), h n (omega arith))

  -- where p doesn't hold of all numbers below n, one can be named
  pub all_fails : (n : ℕ) → all_below n p ≡ false → (i : ℕ) × (i < n) × (p i ≡ false)
  unfolding all_below
  all_fails zero h = clash true refl h
  all_fails (suc n) h =
      ⊎_elim (λ l. let w = all_fails n l in (w.0, (let k = w.1 in omega arith), w.2)) (λ e. (n, omega arith, e))
      (and_either (all_below n p) (p n) h)

  pub any_none : any_below 0 p ≡ false
  unfolding any_below
  any_none = refl

  pub any_more : (i : ℕ) → any_below i p ≡ false → p i ≡ false → any_below (i + 1) p ≡ false
  unfolding any_below
  any_more i h e = rw (add-one, h, e)

  pub any_next : (i : ℕ) → any_below (i + 1) p ≡ (any_below i p || p i)
  unfolding any_below
  any_next i = rw add-one

  -- the first in front of the others
  pub any_first : (n : ℕ) → any_below (suc n) p ≡ (p 0 || any_below n (λ i. p (suc i)))
  unfolding any_below
  any_first zero = sym (or-false (p 0))
  any_first (suc n) = rw (any_first n) (or_assoc (p 0) (any_below n (λ i. p (suc i))) (p (suc n)))

  pub any_found : (n i : ℕ) → i < n → p i ≡ true → any_below n p ≡ true
  unfolding any_below
  any_found zero i h e = elim (not-suc-le-zero h) [ ]
  any_found (suc n) i h e = split h (λ q. rw (← q, e, or-true)) (λ l. rw (any_found n i l e))

  -- what is true of none below n is false of each
  pub any_at : (n : ℕ) → any_below n p ≡ false → (i : ℕ) → i < n → p i ≡ false
  unfolding any_below
  any_at zero h i k = elim (not-suc-le-zero k) [ ]
  any_at (suc n) h i k =
      split k (λ q. rw q (or_right (any_below n p) (p n) h)) (λ l. any_at n (or_left (any_below n p) (p n) h) i l)

  pub any_each : (n : ℕ) → ((i : ℕ) → i < n → p i ≡ false) → any_below n p ≡ false
  unfolding any_below
  any_each zero h = refl
  any_each (suc n) h = rw (any_each n (λ i l. h i (omega arith)), h n (omega arith))

  -- what is false from m on makes no difference
  pub any_tail : (m n : ℕ) → m ≤ n → ((i : ℕ) → m ≤ i → i < n → p i ≡ false) → any_below n p ≡ any_below m p
  unfolding any_below
  any_tail m zero h z = let e : m ≡ 0 = omega arith in rw e
  any_tail m (suc n) h z =
      ⊎_elim (λ q. rw q)
      (λ l.
      let k = le_of_suc-le-suc l in
      rw (z n k (omega arith), or-false) (any_tail m n k (λ i h j. z i h (omega arith))))
      (eq-or-lt_of_le h)

  -- where p holds of some number below n, one can be named
  pub any_some : (n : ℕ) → any_below n p ≡ true → (i : ℕ) × (i < n) × (p i ≡ true)
  unfolding any_below
  any_some zero h = clash false h refl
  any_some (suc n) h =
      ⊎_elim (λ l. let w = any_some n l in (w.0, (let k = w.1 in omega arith), w.2)) (λ e. (n, omega arith, e))
      (or_either (any_below n p) (p n) h)

  pub first_le : (n : ℕ) → first_below n p ≤ n
  unfolding first_below
  first_le zero = omega arith
  first_le (suc n) = by (any_below n p) (p n) (first_le n)
    where
      by : (a b : Bool) → first_below n p ≤ n → cond a (first_below n p) (cond b n (suc n)) ≤ suc n
      by true b h = omega arith
      by false true h = omega arith
      by false false h = omega arith

  -- no number below the first is one of which p holds
  pub first_least : (n i : ℕ) → i < first_below n p → p i ≡ false
  unfolding first_below any_below
  first_least zero i h = elim (not-suc-le-zero h) [ ]
  first_least (suc n) i h = by (any_below n p) (p n) refl refl (first_least n i) h
    where
      by : (a b : Bool) → any_below n p ≡ a → p n ≡ b → (i < first_below n p → p i ≡ false) →
          i < cond a (first_below n p) (cond b n (suc n)) → p i ≡ false
      by true b ea eb low k = low k
      by false true ea eb low k = any_at n ea i k
      by false false ea eb low k = split k (λ q. rw q eb) (λ l. any_at n ea i l)

  -- where p holds of some number below n, the first lies below n
  pub first_lt : (n : ℕ) → any_below n p ≡ true → first_below n p < n
  first_lt n h =
      let (i, l, e) = any_some n h in
      ⊎_elim (λ q. clash (p i) e (first_least n i (rw q l))) (λ l. l) (eq-or-lt_of_le (first_le n))

  -- p holds of the first where that lies below n
  pub first_at : (n : ℕ) → first_below n p < n → p (first_below n p) ≡ true
  unfolding first_below any_below
  first_at zero h = elim (not-suc-le-zero h) [ ]
  first_at (suc n) h = by (any_below n p) (p n) refl refl (first_at n) h
    where
      by : (a b : Bool) → any_below n p ≡ a → p n ≡ b → (first_below n p < n → p (first_below n p) ≡ true) →
          cond a (first_below n p) (cond b n (suc n)) < suc n →
          p (cond a (first_below n p) (cond b n (suc n))) ≡ true
      by true b ea eb at k = at (first_lt n ea)
      by false true ea eb at k = eb
      by false false ea eb at k = absurd (lt_irrefl (suc n) k)

  -- the first is the number below n of which p holds and below which it holds of none
  pub first_is : (n i : ℕ) → i < n → p i ≡ true → ((j : ℕ) → j < i → p j ≡ false) → first_below n p ≡ i
  unfolding first_below any_below
  first_is zero i h e low = elim (not-suc-le-zero h) [ ]
  first_is (suc n) i h e low =
      split h
      (λ q. rw (any_each n (λ j l. low j (omega arith)), ← q, e))
      (λ l. rw (any_found n i l e) (first_is n i l e low))

  -- the first below n + 1
  pub first_more : (n : ℕ) → first_below (n + 1) p ≡ cond (any_below n p) (first_below n p) (cond (p n) n (n + 1))
  unfolding first_below
  first_more n = rw add-one

  pub first_none : (n : ℕ) → any_below n p ≡ false → first_below n p ≡ n
  unfolding first_below any_below
  first_none zero h = refl
  first_none (suc n) h = rw (or_left (any_below n p) (p n) h, or_right (any_below n p) (p n) h)

module _ (p q : ℕ → Bool) where
  pub all_same : (n : ℕ) → ((i : ℕ) → i < n → p i ≡ q i) → all_below n p ≡ all_below n q
  unfolding all_below
  all_same zero h = refl
  all_same (suc n) h = rw (all_same n (λ i l. h i (omega arith)), h n (omega arith))

  pub any_same : (n : ℕ) → ((i : ℕ) → i < n → p i ≡ q i) → any_below n p ≡ any_below n q
  unfolding any_below
  any_same zero h = refl
  any_same (suc n) h = rw (any_same n (λ i l. h i (omega arith)), h n (omega arith))

  pub first_same : (n : ℕ) → ((i : ℕ) → i < n → p i ≡ q i) → first_below n p ≡ first_below n q
  unfolding first_below any_below
  first_same zero h = refl
  first_same (suc n) h =
      rw (any_same n (λ i l. h i (omega arith)), first_same n (λ i l. h i (omega arith)), h n (omega arith))
