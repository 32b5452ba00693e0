-- Laws of lists joined below n, of stores into a list, and of lists of one number alone.
use Prim.Native.Nat.{ℕ, zero, suc, ◌+◌, ◌-◌, ◌<◌, ◌≤◌}
use mathlib.Core.Path.{◌≡◌, refl, sym, ap, ◌∙◌}
use mathlib.Core.Logic.{⊎_elim}
use mathlib.Core.List.{List, [], ◌∷◌, ◌++◌, append-nil, append_assoc}
use native.Mathlib.Numerals.{add-one}
use native.Mathlib.Nat.{add-zero, eq-or-lt_of_le, le_of_suc-le-suc}
use native.Mathlib.Omega.{arith}
use lib.ListN.{length, get_or, set, drop, replicate, length-append}
use lib.Seq.{sets, get_or-set_same, get_or-set_other}
use lib.Dec.{eqb}
use borrow.Author.Tests.{eqb-true, eqb-false}
use Rattle.folds.proofs.Bools.{met_or_not}
use Rattle.folds.specs.Below.{join_below, sum_below}

module _ (f : ℕ → List ℕ) where
  pub join_none : join_below 0 f ≡ []
  unfolding join_below
  join_none = refl

  pub join_more : (n : ℕ) → join_below (n + 1) f ≡ join_below n f ++ f n
  unfolding join_below
  join_more n = rw add-one

  -- the first in front of the others
  pub join_first : (n : ℕ) → join_below (suc n) f ≡ f 0 ++ join_below n (λ i. f (suc i))
  unfolding join_below
  join_first zero = sym (append-nil (f 0))
  join_first (suc n) =
      ap (λ (l : List ℕ). l ++ f (suc n)) (join_first n)
      ∙ append_assoc (f 0) (join_below n (λ i. f (suc i))) (f (suc n))

  -- empty lists from m on add nothing
  pub join_tail : (m n : ℕ) → m ≤ n → ((i : ℕ) → m ≤ i → i < n → f i ≡ []) → join_below n f ≡ join_below m f
  unfolding join_below
  join_tail m zero h z = let e : m ≡ 0 = omega arith in rw e
  join_tail m (suc n) h z =
      ⊎_elim (λ q. rw q)
      (λ l.
      let k = le_of_suc-le-suc l in
      rw (z n k (omega arith), append-nil) (join_tail m n k (λ i h j. z i h (omega arith))))
      (eq-or-lt_of_le h)

  -- the length is the sum of the lengths
  pub join_length : (n : ℕ) → length (join_below n f) ≡ sum_below n (λ i. length (f i))
  unfolding join_below sum_below
  join_length zero = refl
  join_length (suc n) = rw (length-append, join_length n)

module _ (f g : ℕ → List ℕ) where
  pub join_same : (n : ℕ) → ((i : ℕ) → i < n → f i ≡ g i) → join_below n f ≡ join_below n g
  unfolding join_below
  join_same zero h = refl
  join_same (suc n) h = rw (join_same n (λ i l. h i (omega arith)), h n (omega arith))

-- a store after i others, each of which has its property
pub stored : (w : List ℕ) (i v : ℕ) (Q : ℕ → ℕ → Type 0) → i < length w →
    ((k : ℕ) → k < i → Q k (get_or w k 0)) → Q i v →
    (k : ℕ) → k < i + 1 → Q k (get_or (set w i v) k 0)
stored w i v Q l inv e k m =
    ⊎_elim (λ t. let s : k ≡ i = eqb-true _ _ t in rw (s, get_or-set_same w i v 0 l) e)
    (λ t. let d : k ≡ i → ⊥ = eqb-false k i t in rw (get_or-set_other w i k v 0 d) (inv k (omega arith)))
    (met_or_not (eqb k i))

-- two lists are written one behind the other
pub sets-append : (l : List ℕ) (i : ℕ) (xs ys : List ℕ) → sets l i (xs ++ ys) ≡ sets (sets l i xs) (i + length xs) ys
sets-append l i [] ys = rw add-zero
sets-append l i (x ∷ xs) ys =
    let with = set l i x in
    sets-append with (suc i) xs ys ∙ ap (λ k. sets (sets with (suc i) xs) k ys) (omega arith)

-- a list of one number alone: what is left of it, and what stands in one of zeros
pub drop-replicate : (a n m : ℕ) → drop n (replicate m a) ≡ replicate (m - n) a
drop-replicate a zero m = let e : m - 0 ≡ m = omega arith in rw e
drop-replicate a (suc n) zero = let e : 0 - suc n ≡ 0 = omega arith in rw e
drop-replicate a (suc n) (suc m) = let e : suc m - suc n ≡ m - n = omega arith in rw e (drop-replicate a n m)

pub zero_at : (n i : ℕ) → get_or {A = ℕ} (replicate n 0) i 0 ≡ 0
zero_at zero i = refl
zero_at (suc n) zero = refl
zero_at (suc n) (suc i) = zero_at n i
