-- The numbers below 256 that stand to a value as an operator says are a range, but for one number.
use Prim.Native.Nat.{ℕ, ◌+◌, ◌<◌, ◌≤◌}
use mathlib.Core.Bool.{◌&&◌, and-true}
use mathlib.Core.Path.{◌≡◌, ◌∙◌}
use native.Mathlib.Numerals.{add-one}
use native.Mathlib.Omega.{arith}
use borrow.Author.Tests.{lt-ltb, le-leb, eq-eqb, ne_eqb, ltb-true, leb-true, eqb-true}
use lib.Dec.{ltb, leb, eqb, leb-zero, leb-suc-suc}
use Rattle.folds.proofs.Bools.{same_test, and_left, and_right, and_both}
use Rattle.weights.specs.Operators.{meets, RangeOf}

-- at most is below the next
at_most : (x v : ℕ) → leb x v ≡ ltb x (v + 1)
at_most x v = rw (add-one, leb-suc-suc)

-- equal is from a number to before the next
single : (x v : ℕ) → eqb x v ≡ (leb v x && ltb x (v + 1))
single x v =
    same_test (eqb x v) (leb v x && ltb x (v + 1))
    (λ h. let e : x ≡ v = eqb-true x v h in and_both (le-leb v x (omega arith)) (lt-ltb x (v + 1) (omega arith)))
    (λ h. let lo : v ≤ x = leb-true v x (and_left (leb v x) _ h) in
    let hi : x < v + 1 = ltb-true x (v + 1) (and_right (leb v x) _ h) in eq-eqb x v (omega arith))

module _ {o v low end but : ℕ} (small : v < 256) (none : but ≡ 256) where
  -- a range without a number left out
  plain : low ≤ 256 → end ≤ 256 → (o ≤ 5 → (x : ℕ) → x < 256 → meets o x v ≡ (leb low x && ltb x end)) →
      RangeOf o v low end but
  plain l e h = record {
    low_le = l;
    end_le = e;
    met = λ k x m. h k x m ∙ rw (none, ne_eqb x 256 (λ q. omega arith), and-true);
  }

  pub above : o ≡ 0 → low ≡ v + 1 → end ≡ 256 → RangeOf o v low end but
  unfolding meets
  above q l e = plain (omega arith) (omega arith) (λ k x m. rw (q, l, e, lt-ltb x 256 m, and-true, add-one))

  pub below : o ≡ 1 → low ≡ 0 → end ≡ v → RangeOf o v low end but
  unfolding meets
  below q l e = plain (omega arith) (omega arith) (λ k x m. rw (q, l, e, leb-zero))

  pub from : o ≡ 2 → low ≡ v → end ≡ 256 → RangeOf o v low end but
  unfolding meets
  from q l e = plain (omega arith) (omega arith) (λ k x m. rw (q, l, e, lt-ltb x 256 m, and-true))

  pub upto : o ≡ 3 → low ≡ 0 → end ≡ v + 1 → RangeOf o v low end but
  unfolding meets
  upto q l e = plain (omega arith) (omega arith) (λ k x m. rw (q, l, e, leb-zero) (at_most x v))

  pub equal : o ≡ 4 → low ≡ v → end ≡ v + 1 → RangeOf o v low end but
  unfolding meets
  equal q l e = plain (omega arith) (omega arith) (λ k x m. rw (q, l, e) (single x v))

  -- no such operator
  pub other : 6 ≤ o → low ≡ 0 → end ≡ 0 → RangeOf o v low end but
  other q l e = plain (omega arith) (omega arith) (λ k. absurd (omega arith))

pub unequal : {o v but : ℕ} → o ≡ 5 → but ≡ v → RangeOf o v 0 256 but
unfolding meets
unequal {o} {v} q e = record {
  low_le = omega arith;
  end_le = omega arith;
  met = λ k x m. rw (q, e, leb-zero, lt-ltb x 256 m);
}
