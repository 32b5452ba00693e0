-- Numbers in decimal: one, two or three digits.
use Prim.Native.Nat.{ℕ, ◌+◌, ◌-◌, ◌/◌, ◌%◌, ◌<◌, ◌≤◌}
use mathlib.Core.Bool.{true, false}
use mathlib.Core.Path.{◌≡◌, ap}
use mathlib.Core.Logic.{⊎_elim}
use mathlib.Core.List.{List, [], ◌∷◌}
use native.Mathlib.Omega.{arith}
use borrow.Author.Tests.{lt-ltb, le-ltb, ltb-true, ltb-false}
use lib.Dec.{ltb}
use lib.ListN.{length, take, drop}
use mir.Val.{bool_byte}
use Rattle.folds.proofs.Bools.{met_or_not}
use Rattle.release_list.specs.Text.{digit, decimal}

pub one_digit : (n : ℕ) → n < 10 → decimal n ≡ digit n ∷ []
unfolding decimal
one_digit n h = rw (lt-ltb n 10)

pub two_digits : (n : ℕ) → 10 ≤ n → n < 100 → decimal n ≡ digit (n / 10) ∷ digit (n % 10) ∷ []
unfolding decimal
two_digits n l h = rw (le-ltb n 10, lt-ltb n 100)

pub three_digits : (n : ℕ) → 100 ≤ n → decimal n ≡ digit (n / 100) ∷ digit (n / 10 % 10) ∷ digit (n % 10) ∷ []
unfolding decimal
three_digits n h = rw (le-ltb n 10 (omega arith), le-ltb n 100)

pub one_length : (n : ℕ) → n < 10 → length (decimal n) ≡ 1
one_length n h = ap length (one_digit n h)

pub two_length : (n : ℕ) → n < 100 → length (decimal n) ≤ 2
two_length n h =
    ⊎_elim (λ t. let e = one_length n (ltb-true n 10 t) in omega arith)
    (λ t. let e = ap length (two_digits n (ltb-false n 10 t) h) in omega arith)
    (met_or_not (ltb n 10))

pub three_length : (n : ℕ) → length (decimal n) ≤ 3
three_length n =
    ⊎_elim (λ t. let e = two_length n (ltb-true n 100 t) in omega arith)
    (λ t. let e = ap length (three_digits n (ltb-false n 100 t)) in omega arith)
    (met_or_not (ltb n 100))

-- three digits but for the leading zeros, which are as many as of n < 10 and n < 100 hold
module _ (n : ℕ) {a b : ℕ} (e : a ≡ bool_byte (ltb n 10)) (f : b ≡ bool_byte (ltb n 100)) where
  abbrev left : List ℕ
  left = take (3 - (a + b)) (drop (a + b) (digit (n / 100) ∷ digit (n / 10 % 10) ∷ digit (n % 10) ∷ []))

  below_10 : ltb n 10 ≡ true → decimal n ≡ left
  below_10 t =
      let l = ltb-true n 10 t in
      let same : n % 10 ≡ n = omega arith in
      rw (one_digit n l, e, f, t, lt-ltb n 100 (omega arith), same)

  below_100 : ltb n 10 ≡ false → ltb n 100 ≡ true → decimal n ≡ left
  below_100 t u =
      let l = ltb-true n 100 u in
      let same : n / 10 % 10 ≡ n / 10 = omega arith in
      rw (two_digits n (ltb-false n 10 t) l, e, f, t, u, same)

  above : ltb n 10 ≡ false → ltb n 100 ≡ false → decimal n ≡ left
  above t u = rw (three_digits n (ltb-false n 100 u), e, f, t, u)

  pub digits_left : decimal n ≡ left
  digits_left =
      ⊎_elim below_10 (λ t. ⊎_elim (below_100 t) (above t) (met_or_not (ltb n 100))) (met_or_not (ltb n 10))
