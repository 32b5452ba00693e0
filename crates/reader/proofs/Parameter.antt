-- A user's parameter with each code that divides it divided out: 1 is left exactly of a product of different codes.
use Prim.Native.Nat.{ℕ, zero, suc, ◌+◌, ◌*◌, ◌-◌, ◌/◌, ◌%◌, ◌^◌, ◌<◌, ◌≤◌, ◌∣◌}
use mathlib.Core.Bool.{Bool, true, false, ◌||◌, cond}
use mathlib.Core.Path.{◌≡◌, refl, sym, ap, ◌∙◌}
use mathlib.Core.Logic.{⊎_elim}
use native.Mathlib.Numerals.{add-one}
use native.Mathlib.Nat.{mul-one, one-mul, mul-add, mul_comm, mul_assoc, mul_left_comm, eq_of_mul-eq-mul_right}
use native.Mathlib.Nat.{mod-eq_of_lt, div-add-mod', div-mul_cancel, not-suc-le-zero}
use native.Mathlib.Nat.{dvd-mul_left, dvd-mul_left_of_dvd, dvd-mul_right_of_dvd, dvd-add_iff_right}
use native.Mathlib.Nat.{dvd_of_mod-eq-zero, mod-eq-zero_of_dvd}
use native.Mathlib.Omega.{arith}
use lib.Dec.{ltb, eqb}
use borrow.Author.Tests.{ltb-true, eqb-true, eq-eqb}
use Rattle.folds.specs.Below.{all_below, product_below}
use Rattle.folds.proofs.Bools.{or_either, same_test}
use Rattle.folds.proofs.Tests.{split, all_at, any_found, any_some}
use Rattle.folds.proofs.Numbers.{product_same, product_pos}
use Rattle.folds.specs.Sets.{in_set, set_below}
use Rattle.folds.proofs.Sets.{set_lt, in_set_lem}
use Rattle.reader.specs.Codes.{code_of, code_product, parameter_ok, code_divides}

-- what is left of x once each code of a role below r that divides it was divided out, in role order
unfoldable pub rest_of : ℕ → ℕ → ℕ
rest_of zero x = x
rest_of (suc r) x = cond (code_divides r (rest_of r x)) (rest_of r x / code_of r) (rest_of r x)

-- at first nothing is divided out
pub rest_none : (x : ℕ) → rest_of 0 x ≡ x
unfolding rest_of
rest_none x = refl

-- the code of role r is divided out where it divides
pub rest_taken : (r x : ℕ) → code_divides r (rest_of r x) ≡ true → rest_of (r + 1) x ≡ rest_of r x / code_of r
unfolding rest_of
rest_taken r x h = rw (add-one, h)

-- and not where it doesn't
pub rest_left : (r x : ℕ) → code_divides r (rest_of r x) ≡ false → rest_of (r + 1) x ≡ rest_of r x
unfolding rest_of
rest_left r x h = rw (add-one, h)

-- no code is 0 or 1
pub code_big : (r : ℕ) → r < 8 → 1 < code_of r
unfolding all_below
code_big r h = ltb-true _ _ (all_at (λ k. ltb 1 (code_of k)) 8 refl r h)

-- no code is 0
pub code_pos : (r : ℕ) → r < 8 → 0 < code_of r
code_pos r h = omega (arith, code_big r h)

-- the inverse of role k's code modulo role r's (Fermat: the codes are primes)
inverse : ℕ → ℕ → ℕ
inverse r k = code_of k ^ (code_of r - 2)

-- the table of the inverses
inverses : all_below 8 (λ r. all_below 8 (λ k. eqb k r || eqb (code_of k * inverse r k % code_of r) 1)) ≡ true
unfolding all_below inverse
inverses = refl

-- each code but role r's has an inverse modulo role r's
inverse_at : (r k : ℕ) → r < 8 → k < 8 → (k ≡ r → ⊥) → code_of k * inverse r k % code_of r ≡ 1
inverse_at r k h l d =
    ⊎_elim (λ e. absurd (d (eqb-true _ _ e))) (λ e. eqb-true _ _ e)
    (or_either (eqb k r) (eqb (code_of k * inverse r k % code_of r) 1) (all_at _ 8 (all_at _ 8 inverses r h) k l))

-- p divides a product only by its first factor where the second has an inverse i modulo p
cancel : (p y c i : ℕ) → c * i % p ≡ 1 → p ∣ y * c → p ∣ y
cancel p y c i h d =
    let e : c * i ≡ c * i / p * p + 1 = omega (arith, div-add-mod' (c * i) p) in
    (dvd-add_iff_right p (dvd-mul_left_of_dvd p (dvd-mul_left p (c * i / p)) y)).1
    (rw (mul_assoc, e, mul-add, mul-one) at (dvd-mul_right_of_dvd p d i))

-- the test of a divisor is met by one
divides_true : (r x : ℕ) → code_of r ∣ x → code_divides r x ≡ true
divides_true r x d = eq-eqb _ _ (mod-eq-zero_of_dvd (code_of r) d)

-- and by nothing else
pub true_divides : (r x : ℕ) → code_divides r x ≡ true → code_of r ∣ x
true_divides r x h = dvd_of_mod-eq-zero (code_of r) (eqb-true _ _ h)

-- the code of another role as a factor makes no difference to role r
other_code : (r k y : ℕ) → r < 8 → k < 8 → (k ≡ r → ⊥) → code_divides r (y * code_of k) ≡ code_divides r y
other_code r k y h l d = same_test _ _ without with
  where
    without : code_divides r (y * code_of k) ≡ true → code_divides r y ≡ true
    without e =
        let whole = true_divides r (y * code_of k) e in
        divides_true r y (cancel (code_of r) y (code_of k) (inverse r k) (inverse_at r k h l d) whole)

    with : code_divides r y ≡ true → code_divides r (y * code_of k) ≡ true
    with e = divides_true r (y * code_of k) (dvd-mul_right_of_dvd (code_of r) (true_divides r y e) (code_of k))

-- products over the roles that a test t picks
module _ (t : ℕ → Bool) where
  -- what role k brings to the product
  abbrev factor : ℕ → ℕ
  factor k = cond (t k) (code_of k) 1

  -- no factor is 0
  factor_pos : (k : ℕ) → k < 8 → 0 < factor k
  factor_pos k h = by (t k)
    where
      by : (b : Bool) → 0 < cond b (code_of k) 1
      by true = code_pos k h
      by false = omega arith

  -- the factor of another role makes no difference to role r
  other : (r k y : ℕ) → r < 8 → k < 8 → (k ≡ r → ⊥) → code_divides r (y * factor k) ≡ code_divides r y
  other r k y h l d = by (t k)
    where
      by : (b : Bool) → code_divides r (y * cond b (code_of k) 1) ≡ code_divides r y
      by true = other_code r k y h l d
      by false = rw mul-one

  -- nor do those of roles below r
  others : (r y n : ℕ) → r < 8 → n ≤ r → code_divides r (y * product_below n factor) ≡ code_divides r y
  unfolding product_below
  others r y zero h l = rw mul-one
  others r y (suc n) h l =
      rw (← mul_assoc y (product_below n factor) (factor n))
      (other r n (y * product_below n factor) h (omega arith) (λ e. omega arith) ∙ others r y n h (omega arith))

  -- of the product, the codes of exactly the roles picked are divisors
  picked : (n r : ℕ) → n ≤ 8 → r < n → code_divides r (product_below n factor) ≡ t r
  unfolding product_below
  picked zero r h l = elim (not-suc-le-zero l) [ ]
  picked (suc n) r h l =
      split l (λ e. rw e (by (t n)))
      (λ k. other r n (product_below n factor) (omega arith) h (λ e. omega arith) ∙ picked n r (omega arith) k)
    where
      by : (b : Bool) → code_divides n (product_below n factor * cond b (code_of n) 1) ≡ b
      by true = divides_true n (product_below n factor * code_of n) (dvd-mul_left (code_of n) (product_below n factor))
      by false =
          rw (mul-one, ← one-mul (product_below n factor), others n 1 n h (omega arith), mod-eq_of_lt (code_big n h))

-- of a product over a set of roles below R, the codes of exactly the roles in the set are divisors
pub product_divides : (R s r : ℕ) → R ≤ 8 → r < R → code_divides r (code_product R s) ≡ in_set s r
unfolding code_product
product_divides R s r h l = picked (in_set s) R r h l

-- the roles held by an accepted parameter are the set of which it is the product
pub roles_held : (R x : ℕ) → R ≤ 8 → parameter_ok R x ≡ true →
    (s : ℕ) × (s < 2 ^ R) × (x ≡ code_product R s) × ((r : ℕ) → r < R → code_divides r x ≡ in_set s r)
unfolding parameter_ok
roles_held R x h ok =
    let (s, l, m) = any_some (λ s. eqb x (code_product R s)) (2 ^ R) ok in
    let e : x ≡ code_product R s = eqb-true _ _ m in
    (s, l, e, λ r k. ap (code_divides r) e ∙ product_divides R s r h k)

-- to divide a code out is to move it from y to the product p
moved : (r y p : ℕ) → y * p ≡ cond (code_divides r y) (y / code_of r) y * (p * cond (code_divides r y) (code_of r) 1)
moved r y p = by (code_divides r y) refl
  where
    by : (b : Bool) → code_divides r y ≡ b → y * p ≡ cond b (y / code_of r) y * (p * cond b (code_of r) 1)
    by true e = rw (mul_left_comm, div-mul_cancel (code_of r) (true_divides r y e)) (mul_comm y p)
    by false e = rw (mul-one p)

-- of y times codes of roles below n, role n's code is a divisor exactly where it is one of y
same_divisor : (t : ℕ → Bool) (n x y : ℕ) → n < 8 → x ≡ y * product_below n (factor t) →
    code_divides n x ≡ code_divides n y
same_divisor t n x y h e = ap (code_divides n) e ∙ others t n y n h (omega arith)

-- a number is what is left of it times the codes that divide it
rest_times : (n x : ℕ) → n ≤ 8 → x ≡ rest_of n x * product_below n (factor (λ k. code_divides k x))
unfolding rest_of product_below
rest_times zero x h = sym (mul-one x)
rest_times (suc n) x h =
    let t : ℕ → Bool = λ k. code_divides k x in
    let e : x ≡ rest_of n x * product_below n (factor t) = rest_times n x (omega arith) in
    let same : code_divides n x ≡ code_divides n (rest_of n x) = same_divisor t n x (rest_of n x) h e in
    rw same (e ∙ moved n (rest_of n x) (product_below n (factor t)))

-- the code of role n divides a number exactly where it divides what is left once those before it were divided out
pub rest_divides : (n x : ℕ) → n < 8 → code_divides n x ≡ code_divides n (rest_of n x)
rest_divides n x h = same_divisor (λ k. code_divides k x) n x (rest_of n x) h (rest_times n x (omega arith))

-- the same with the set of the roles whose codes divide it
rest_set : (R x s : ℕ) → R ≤ 8 → ((r : ℕ) → r < R → code_divides r x ≡ in_set s r) → x ≡ rest_of R x * code_product R s
unfolding code_product
rest_set R x s h e =
    rw (← product_same (factor (λ k. code_divides k x)) (factor (in_set s)) R (λ r l. rw (e r l))) (rest_times R x h)

-- no product of codes is 0
codes_pos : (R s : ℕ) → R ≤ 8 → 0 < code_product R s
unfolding code_product
codes_pos R s h = product_pos (factor (in_set s)) R (λ r k. factor_pos (in_set s) r (omega arith))

-- the parameter is a product of different codes of roles below R exactly when the rest is 1
pub rest_one : (R x : ℕ) → R ≤ 8 → eqb (rest_of R x) 1 ≡ parameter_ok R x
unfolding parameter_ok
rest_one R x h = same_test _ _ accepted one
  where
    accepted : eqb (rest_of R x) 1 ≡ true → parameter_ok R x ≡ true
    accepted e =
        let t : ℕ → Bool = λ r. code_divides r x in
        let s : ℕ = set_below R t in
        let whole : x ≡ rest_of R x * code_product R s = rest_set R x s h (λ r k. sym (in_set_lem t R r k)) in
        let same : x ≡ code_product R s = whole ∙ rw (eqb-true (rest_of R x) 1 e) (one-mul _) in
        any_found (λ s. eqb x (code_product R s)) (2 ^ R) s (set_lt t R) (eq-eqb _ _ same)

    one : parameter_ok R x ≡ true → eqb (rest_of R x) 1 ≡ true
    one ok =
        let (s, l, e, m) = roles_held R x h ok in
        let p : ℕ = code_product R s in
        let same : rest_of R x * p ≡ 1 * p = sym (rest_set R x s h m) ∙ e ∙ sym (one-mul p) in
        eq-eqb _ _ (eq_of_mul-eq-mul_right p (codes_pos R s h) (rest_of R x) 1 same)
