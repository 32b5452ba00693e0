-- The lowest number of a set, and the set without it.
use Prim.Native.Nat.{ℕ, zero, suc, ◌-◌, ◌/◌, ◌%◌, ◌^◌, ◌<◌}
use mathlib.Core.Bool.{Bool, true, false, ◌&&◌, not}
use mathlib.Core.Path.{◌≡◌, refl, ◌∙◌}
use mathlib.Core.Logic.{◌⊎◌, inl, inr, ⊎_elim}
use native.Mathlib.Nat.{not-suc-le-zero}
use native.Mathlib.Omega.{arith}
use lib.Bits.{bit_and}
use lib.Count.{count_trailing_zeros}
use lib.Dec.{eqb, eqb-suc-suc, eqb-suc-zero}
use Rattle.folds.specs.Sets.{in_set}
use Rattle.folds.proofs.Sets.{in_half, in_and}

-- the lowest bit is that of 0
in_first : (s : ℕ) → in_set s 0 ≡ eqb (s % 2) 1
unfolding in_set
in_first s = let e : s / 2 ^ 0 % 2 ≡ s % 2 = omega arith in rw e

-- a remainder by 2 is 1 or 0
odd_or_even : (r : ℕ) → (r % 2 ≡ 1) ⊎ (r % 2 ≡ 0)
odd_or_even r = by (r % 2) (omega arith)
  where
    by : (d : ℕ) → d < 2 → (d ≡ 1) ⊎ (d ≡ 0)
    by zero h = inr refl
    by (suc zero) h = inl refl
    by (suc (suc d)) h = absurd (omega arith)

-- t is the lowest member of r
pub record Lowest (d r t : ℕ) : Type 0 where
  pub below : t < d
  pub member : in_set r t ≡ true
  pub least : (j : ℕ) → j < t → in_set r j ≡ false
  pub others : (j : ℕ) → (in_set r j && in_set (r - 1) j) ≡ (in_set r j && not (eqb j t))

same_twice : (b : Bool) → (b && b) ≡ (b && true)
same_twice true = refl
same_twice false = refl

lowest_odd : (d r : ℕ) → r % 2 ≡ 1 → Lowest (suc d) r 0
lowest_odd d r o = record {
  below = omega arith;
  member = rw (in_first, o);
  least = λ j l. absurd (not-suc-le-zero l);
  others = others;
}
  where
    others : (j : ℕ) → (in_set r j && in_set (r - 1) j) ≡ (in_set r j && not (eqb j 0))
    others zero = let e : (r - 1) % 2 ≡ 0 = omega arith in rw (in_first (r - 1), e)
    others (suc j) =
        let e : (r - 1) / 2 ≡ r / 2 = omega arith in
        rw (in_half r j, in_half (r - 1) j, e, eqb-suc-zero) (same_twice (in_set (r / 2) j))

lowest_even : (d r t : ℕ) → 0 < r → r % 2 ≡ 0 → Lowest d (r / 2) t → Lowest (suc d) r (suc t)
lowest_even d r t h o l = record {
  below = let b = l.below in omega arith;
  member = in_half r t ∙ l.member;
  least = least;
  others = others;
}
  where
    least : (j : ℕ) → j < suc t → in_set r j ≡ false
    least zero m = rw (in_first, o)
    least (suc j) m = in_half r j ∙ l.least j (omega arith)

    others : (j : ℕ) → (in_set r j && in_set (r - 1) j) ≡ (in_set r j && not (eqb j (suc t)))
    others zero = rw (in_first r, o)
    others (suc j) =
        let e : (r - 1) / 2 ≡ r / 2 - 1 = omega arith in
        rw (in_half r j, in_half (r - 1) j, e, eqb-suc-suc) (l.others j)

-- the number of trailing zeros is the lowest member
pub lowest : (d r : ℕ) → 0 < r → r < 2 ^ d → Lowest d r (count_trailing_zeros d r)
unfolding count_trailing_zeros
lowest zero r h l = absurd (omega arith)
lowest (suc d) r h l =
    ⊎_elim
    (λ o. rw o (lowest_odd d r o))
    (λ o. rw o (lowest_even d r _ h o (lowest d (r / 2) (omega arith) (omega arith))))
    (odd_or_even r)

-- r & (r - 1) is r without it
pub without_lowest : (d r t : ℕ) → Lowest d r t → (j : ℕ) → in_set (bit_and r (r - 1)) j ≡ (in_set r j && not (eqb j t))
without_lowest d r t l j = in_and r (r - 1) j ∙ l.others j
