-- By any list of rules, policies of a table go before each other in one order: of two, exactly one goes before.
use Prim.Native.Nat.{ℕ}
use mathlib.Core.Bool.{Bool, true, false, ◌||◌, cond}
use mathlib.Core.List.{List, [], ◌∷◌}
use mathlib.Core.Logic.{◌⊎◌, inl, inr, ⊎_elim}
use mathlib.Core.Path.{◌≡◌, refl}
use native.Mathlib.Omega.{arith}
use borrow.Author.Tests.{ltb-true, ltb-false, lt-ltb, le-ltb}
use lib.Dec.{ltb, eqb}
use Rattle.folds.proofs.Bools.{met_or_not, clash}
use Rattle.reader.specs.Fields.{policy_weight, policy_rank, policy_issue_day}
use Rattle.resolution.specs.Resolution.{rule_before, goes_before}

-- where i goes before j, j doesn't go before i; where i goes before k, any third j comes after i or before k
pub record Order (before : ℕ → ℕ → Bool) : Type 0 where
  pub one_way : (i j : ℕ) → before i j ≡ true → before j i ≡ false
  pub between : (i j k : ℕ) → before i k ≡ true → (before i j ≡ true) ⊎ (before j k ≡ true)

-- by a number of each policy, the smaller or the larger first
smaller_first : (key : ℕ → ℕ) → Order (λ i j. ltb (key i) (key j))
smaller_first key = record {
  one_way = λ i j h. le-ltb (key j) (key i) (omega (arith, ltb-true (key i) (key j) h));
  between = λ i j k h.
      ⊎_elim (λ t. inl t)
      (λ t. inr (lt-ltb (key j) (key k) (omega (arith, ltb-true (key i) (key k) h, ltb-false (key i) (key j) t))))
      (met_or_not (ltb (key i) (key j)));
}

larger_first : (key : ℕ → ℕ) → Order (λ i j. ltb (key j) (key i))
larger_first key = record {
  one_way = λ i j h. le-ltb (key i) (key j) (omega (arith, ltb-true (key j) (key i) h));
  between = λ i j k h.
      ⊎_elim (λ t. inl t)
      (λ t. inr (lt-ltb (key k) (key j) (omega (arith, ltb-true (key k) (key i) h, ltb-false (key j) (key i) t))))
      (met_or_not (ltb (key j) (key i)));
}

-- a rule that tells nothing apart
indifferent : Order (λ i j. false)
indifferent = record { one_way = λ i j h. refl; between = λ i j k h. inl h }

either : (t : Bool) {f g : ℕ → ℕ → Bool} → Order f → Order g → Order (λ i j. cond t (f i j) (g i j))
either true of_f of_g = of_f
either false of_f of_g = of_g

rule_order : (rule : ℕ) (a : List ℕ) → Order (rule_before rule a)
unfolding rule_before
rule_order rule a =
    either (eqb rule 0) (larger_first (policy_issue_day a))
    (either (eqb rule 1) (larger_first (policy_rank a))
    (either (eqb rule 2) (smaller_first (policy_weight a)) indifferent))

-- by one order and, where it doesn't tell two apart, by another
module _ (f g : ℕ → ℕ → Bool) (of_f : Order f) (of_g : Order g) where
  abbrev joined : ℕ → ℕ → Bool
  joined i j = cond (f i j || f j i) (f i j) (g i j)

  told : (i j : ℕ) → f i j ≡ true → joined i j ≡ true
  told i j h = rw h

  untold : (i j : ℕ) → f i j ≡ false → f j i ≡ false → g i j ≡ true → joined i j ≡ true
  untold i j h k l = rw (h, k, l)

  -- the first puts i before j, or it doesn't tell them apart and the other does
  why : (i j : ℕ) → joined i j ≡ true → (f i j ≡ true) ⊎ ((f i j ≡ false) × (f j i ≡ false) × (g i j ≡ true))
  why i j = by (f i j) (f j i) (g i j)
    where
      by : (x y z : Bool) → cond (x || y) x z ≡ true → (x ≡ true) ⊎ ((x ≡ false) × (y ≡ false) × (z ≡ true))
      by true y z h = inl refl
      by false true z h = clash false h refl
      by false false z h = inr (refl, refl, h)

  joined_one_way : (i j : ℕ) → joined i j ≡ true → joined j i ≡ false
  joined_one_way i j h =
      ⊎_elim
      (λ t. let back = of_f.one_way i j t in rw (t, back))
      (λ (forth, back, t). let other = of_g.one_way i j t in rw (forth, back, other))
      (why i j h)

  -- where the first doesn't tell i and k apart, j stands between them by the other or isn't level with them
  level : (i j k : ℕ) → f i k ≡ false → f k i ≡ false → (g i j ≡ true) ⊎ (g j k ≡ true) →
      (joined i j ≡ true) ⊎ (joined j k ≡ true)
  level i j k forth back = ⊎_elim left right
    where
      left : g i j ≡ true → (joined i j ≡ true) ⊎ (joined j k ≡ true)
      left t =
          ⊎_elim (λ q. inl (told i j q))
          (λ q. ⊎_elim
          (λ s. ⊎_elim (λ u. inr (told j k u)) (λ u. clash (f k i) u back) (of_f.between j k i s))
          (λ s. inl (untold i j q s t)) (met_or_not (f j i)))
          (met_or_not (f i j))

      right : g j k ≡ true → (joined i j ≡ true) ⊎ (joined j k ≡ true)
      right t =
          ⊎_elim (λ q. inr (told j k q))
          (λ q. ⊎_elim
          (λ s. ⊎_elim (λ u. clash (f k i) u back) (λ u. inl (told i j u)) (of_f.between k i j s))
          (λ s. inr (untold j k q s t)) (met_or_not (f k j)))
          (met_or_not (f j k))

  joined_order : Order joined
  joined_order = record {
    one_way = joined_one_way;
    between = λ i j k h.
        ⊎_elim
        (λ t. ⊎_elim (λ s. inl (told i j s)) (λ s. inr (told j k s)) (of_f.between i j k t))
        (λ (forth, back, t). level i j k forth back (of_g.between i j k t))
        (why i k h);
  }

-- any list of rules makes an order
pub rules_order : (rules a : List ℕ) → Order (goes_before rules a)
unfolding goes_before
rules_order [] a = smaller_first (λ i. i)
rules_order (rule ∷ rules) a =
    joined_order (rule_before rule a) (goes_before rules a) (rule_order rule a) (rules_order rules a)

-- of two policies one goes before
pub one_before : (rules a : List ℕ) (i j : ℕ) → (i ≡ j → ⊥) →
    (goes_before rules a i j ≡ true) ⊎ (goes_before rules a j i ≡ true)
unfolding goes_before
one_before [] a i j other =
    ⊎_elim (λ t. inl t) (λ t. inr (lt-ltb j i (omega (arith, ltb-false i j t, other)))) (met_or_not (ltb i j))
one_before (rule ∷ rules) a i j other =
    by (rule_before rule a i j) (rule_before rule a j i) (one_before rules a i j other)
  where
    by : (x y : Bool) {u v : Bool} → (u ≡ true) ⊎ (v ≡ true) →
        (cond (x || y) x u ≡ true) ⊎ (cond (y || x) y v ≡ true)
    by true y h = inl refl
    by false true h = inr refl
    by false false h = h

-- none goes before itself
pub not_itself : (rules a : List ℕ) (i : ℕ) → goes_before rules a i i ≡ false
not_itself rules a i =
    ⊎_elim ((rules_order rules a).one_way i i) (λ t. t) (met_or_not (goes_before rules a i i))
