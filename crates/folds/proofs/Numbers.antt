-- Laws of the numbers below n: sum, product, count.
use Prim.Native.Nat.{ℕ, zero, suc, ◌+◌, ◌*◌, ◌<◌, ◌≤◌}
use mathlib.Core.Bool.{Bool, true, false, cond}
use mathlib.Core.Path.{◌≡◌, refl}
use native.Mathlib.Numerals.{add-one}
use native.Mathlib.Nat.{add_comm, add-zero, add_assoc, mul-one, mul-pos, suc-mul}
use native.Mathlib.Nat.{not-suc-le-zero, eq-or-lt_of_le, le_of_suc-le-suc}
use mathlib.Core.Logic.{⊎_elim}
use native.Mathlib.Omega.{arith}
use borrow.Author.Tests.{eq-eqb, ne_eqb}
use lib.Dec.{eqb}
use Rattle.folds.proofs.Tests.{split}
use Rattle.folds.specs.Below.{sum_below, product_below, count_below}

module _ (f : ℕ → ℕ) where
  pub sum_none : sum_below 0 f ≡ 0
  unfolding sum_below
  sum_none = refl

  pub sum_more : (n : ℕ) → sum_below (n + 1) f ≡ sum_below n f + f n
  unfolding sum_below
  sum_more n = rw add-one

  pub sum_step : (n : ℕ) → sum_below (suc n) f ≡ sum_below n f + f n
  unfolding sum_below
  sum_step n = refl

  -- the first in front of the others
  pub sum_first : (n : ℕ) → sum_below (suc n) f ≡ f 0 + sum_below n (λ i. f (suc i))
  unfolding sum_below
  sum_first zero = add_comm 0 (f 0)
  sum_first (suc n) = rw (sum_first n) (add_assoc (f 0) (sum_below n (λ i. f (suc i))) (f (suc n)))

  -- a sum over fewer numbers is not larger
  pub sum_le_sum : (m n : ℕ) → m ≤ n → sum_below m f ≤ sum_below n f
  unfolding sum_below
  sum_le_sum m zero h = let e : m ≡ 0 = omega arith in rw e (omega arith)
  sum_le_sum m (suc n) h =
      ⊎_elim
      (λ q. rw q (omega arith))
      (λ l. let k = sum_le_sum m n (le_of_suc-le-suc l) in omega arith)
      (eq-or-lt_of_le h)

  -- a sum of numbers that are at most c
  pub sum_le : (c n : ℕ) → ((i : ℕ) → i < n → f i ≤ c) → sum_below n f ≤ n * c
  unfolding sum_below
  sum_le c zero h = omega arith
  sum_le c (suc n) h =
      let a : sum_below n f ≤ n * c = sum_le c n (λ i l. h i (omega arith)) in
      let b : f n ≤ c = h n (omega arith) in
      rw suc-mul (omega arith)

  -- numbers that are 0 add nothing
  pub sum_zero : (n : ℕ) → ((i : ℕ) → i < n → f i ≡ 0) → sum_below n f ≡ 0
  unfolding sum_below
  sum_zero zero h = refl
  sum_zero (suc n) h = rw (sum_zero n (λ i l. h i (omega arith)), h n (omega arith))

  -- a sum whose numbers from m on are 0
  pub sum_tail : (m n : ℕ) → m ≤ n → ((i : ℕ) → m ≤ i → i < n → f i ≡ 0) → sum_below n f ≡ sum_below m f
  unfolding sum_below
  sum_tail m zero h z = let e : m ≡ 0 = omega arith in rw e
  sum_tail m (suc n) h z =
      ⊎_elim (λ q. rw q)
      (λ l.
      let k = le_of_suc-le-suc l in
      rw (z n k (omega arith), add-zero) (sum_tail m n k (λ i h j. z i h (omega arith))))
      (eq-or-lt_of_le h)

  -- one number, and the others
  pub sum_pick : (n j : ℕ) → j < n → sum_below n f ≡ f j + sum_below n (λ k. cond (eqb k j) 0 (f k))
  unfolding sum_below
  sum_pick zero j l = elim (not-suc-le-zero l) [ ]
  sum_pick (suc n) j l =
      split l
      (λ q. rw (q, eq-eqb n n refl, add-zero, sum_others n) (add_comm (sum_below n f) (f n)))
      (λ m.
      let others = sum_below n (λ k. cond (eqb k j) 0 (f k)) in
      rw (sum_pick n j m, ne_eqb n j (λ q. omega arith)) (add_assoc (f j) others (f n)))
    where
      sum_others : (n : ℕ) → sum_below n (λ k. cond (eqb k n) 0 (f k)) ≡ sum_below n f
      sum_others n = below n n (omega arith)
        where
          below : (m n : ℕ) → m ≤ n → sum_below m (λ k. cond (eqb k n) 0 (f k)) ≡ sum_below m f
          below zero n h = refl
          below (suc m) n h = rw (below m n (omega arith), ne_eqb m n (λ q. omega arith))

  pub product_pos : (n : ℕ) → ((i : ℕ) → i < n → 0 < f i) → 0 < product_below n f
  unfolding product_below
  product_pos zero h = omega arith
  product_pos (suc n) h = mul-pos (product_pos n (λ i l. h i (omega arith))) (h n (omega arith))

module _ (f g : ℕ → ℕ) where
  pub sum_same : (n : ℕ) → ((i : ℕ) → i < n → f i ≡ g i) → sum_below n f ≡ sum_below n g
  unfolding sum_below
  sum_same zero h = refl
  sum_same (suc n) h = rw (sum_same n (λ i l. h i (omega arith)), h n (omega arith))

  pub product_same : (n : ℕ) → ((i : ℕ) → i < n → f i ≡ g i) → product_below n f ≡ product_below n g
  unfolding product_below
  product_same zero h = refl
  product_same (suc n) h = rw (product_same n (λ i l. h i (omega arith)), h n (omega arith))

module _ (p : ℕ → Bool) where
  pub count_none : count_below 0 p ≡ 0
  unfolding count_below sum_below
  count_none = refl

  pub count_more : (n : ℕ) → count_below (n + 1) p ≡ count_below n p + cond (p n) 1 0
  unfolding count_below
  count_more n = sum_more (λ i. cond (p i) 1 0) n

  -- at most n numbers lie below n
  pub count_le : (n : ℕ) → count_below n p ≤ n
  unfolding count_below
  count_le n = rw mul-one at (sum_le (λ i. cond (p i) 1 0) 1 n (λ i l. one (p i)))
    where
      one : (b : Bool) → cond b 1 0 ≤ 1
      one true = omega arith
      one false = omega arith

module _ (p q : ℕ → Bool) where
  pub count_same : (n : ℕ) → ((i : ℕ) → i < n → p i ≡ q i) → count_below n p ≡ count_below n q
  unfolding count_below
  count_same n h = sum_same (λ i. cond (p i) 1 0) (λ i. cond (q i) 1 0) n (λ i l. rw (h i l))
