-- The policy that counts by any list of rules: exactly one wherever there is a candidate, and without rules the first
-- in table order.
use Prim.Native.Nat.{ℕ, zero, suc, ◌+◌, ◌<◌}
use mathlib.Core.Bool.{Bool, true, false, ◌&&◌}
use mathlib.Core.List.{List, []}
use mathlib.Core.Logic.{⊎_elim}
use mathlib.Core.Path.{◌≡◌, refl, sym, ◌∙◌}
use native.Mathlib.Numerals.{add-one}
use native.Mathlib.Omega.{arith}
use borrow.Author.Tests.{eqb-true, eqb-false, le-ltb, not-true}
use lib.Dec.{eqb}
use Rattle.folds.specs.Below.{any_below, first_below}
use Rattle.folds.proofs.Bools.{and_left, and_right, and_both, and_not_first, and_not_second}
use Rattle.folds.proofs.Bools.{or_last, met_or_not, never_met, clash}
use Rattle.folds.proofs.Tests.{any_at, any_each, any_found, any_next, split}
use Rattle.folds.proofs.Tests.{first_at, first_least, first_lt, first_none}
use Rattle.resolution.specs.Resolution.{goes_before}
use Rattle.weights.specs.Weights.{candidate, is_chosen, ExactlyOne, chosen}
use Rattle.resolution.proofs.Order.{Order, rules_order, one_before, not_itself}

module _ (rules : List ℕ) (in_force f : ℕ → Bool) (a : List ℕ) (r p : ℕ) where
  abbrev counts : ℕ → Bool
  counts = candidate in_force f a r p

  abbrev before : ℕ → ℕ → Bool
  before = goes_before rules a

  -- policy i, below n, is a candidate that no candidate below n goes before
  pub record Foremost (n i : ℕ) : Type 0 where
    pub there : i < n
    pub passes : candidate in_force f a r p i ≡ true
    pub first : (j : ℕ) → j < n → candidate in_force f a r p j ≡ true → goes_before rules a j i ≡ false

  -- that is what `is_chosen` tests
  pub foremost_chosen : {n i : ℕ} → Foremost n i → is_chosen rules in_force f a n r p i ≡ true
  unfolding is_chosen
  foremost_chosen {n} {i} it =
      let none : any_below n (λ j. counts j && before j i) ≡ false =
      any_each (λ j. counts j && before j i) n (λ j l.
      ⊎_elim (λ t. and_not_second t (it.first j l t)) (λ t. and_not_first _ t) (met_or_not (counts j))) in
      rw (it.passes, none)

  pub chosen_foremost : {n i : ℕ} → i < n → is_chosen rules in_force f a n r p i ≡ true → Foremost n i
  unfolding is_chosen
  chosen_foremost {n} {i} l h =
      let none = not-true _ (and_right (counts i) _ h) in
      record {
        there = l;
        passes = and_left (counts i) _ h;
        first = λ j m t.
            never_met (before j i) (λ s.
            clash (counts j && before j i) (and_both t s) (any_at (λ j. counts j && before j i) n none j m));
      }

  -- two that none goes before are one
  pub foremost_same : {n i j : ℕ} → Foremost n i → Foremost n j → i ≡ j
  foremost_same {n} {i} {j} x y =
      ⊎_elim (λ t. eqb-true i j t)
      (λ t. ⊎_elim
      (λ s. clash (before i j) s (y.first i x.there x.passes))
      (λ s. clash (before j i) s (x.first j y.there y.passes))
      (one_before rules a i j (eqb-false i j t)))
      (met_or_not (eqb i j))

  -- the policy chosen is the one that none goes before
  chosen_below : {n i : ℕ} → Foremost n i → Foremost n (chosen rules in_force f a n r p)
  unfolding chosen
  chosen_below {n} {i} it =
      let test : ℕ → Bool = is_chosen rules in_force f a n r p in
      let l = first_lt test n (any_found test n i it.there (foremost_chosen it)) in
      chosen_foremost l (first_at test n l)

  pub chosen_is : {n i : ℕ} → Foremost n i → chosen rules in_force f a n r p ≡ i
  chosen_is it = foremost_same (chosen_below it) it

  -- no candidate: none is chosen
  pub chosen_nothing : (n : ℕ) → any_below n counts ≡ false → chosen rules in_force f a n r p ≡ n
  unfolding chosen is_chosen
  chosen_nothing n none =
      first_none (is_chosen rules in_force f a n r p) n
      (any_each (is_chosen rules in_force f a n r p) n (λ i l. and_not_first _ (any_at counts n none i l)))

  -- one policy more: it is no candidate; it is the first; it doesn't go before the one there is; it does
  module _ {n : ℕ} where
    step : {i : ℕ} → Foremost n i → (counts n ≡ true → before n i ≡ false) → Foremost (n + 1) i
    step it last = record {
      there = (let l = it.there in omega arith);
      passes = it.passes;
      first = λ j l t. split (rw add-one at l) (λ q. rw q (last (rw q at t))) (λ m. it.first j m t);
    }

    pub foremost_skip : {i : ℕ} → counts n ≡ false → Foremost n i → Foremost (n + 1) i
    foremost_skip off it = step it (λ t. clash (counts n) t off)

    pub foremost_kept : {i : ℕ} → before n i ≡ false → Foremost n i → Foremost (n + 1) i
    foremost_kept after it = step it (λ t. after)

    pub foremost_only : counts n ≡ true → any_below n counts ≡ false → Foremost (n + 1) n
    foremost_only on none = record {
      there = omega arith;
      passes = on;
      first = λ j l t.
          split (rw add-one at l) (λ q. rw q (not_itself rules a n))
          (λ m. clash (counts j) t (any_at counts n none j m));
    }

    pub foremost_new : {i : ℕ} → counts n ≡ true → before n i ≡ true → Foremost n i → Foremost (n + 1) n
    foremost_new {i} on over it = record {
      there = omega arith;
      passes = on;
      first = λ j l t.
          split (rw add-one at l) (λ q. rw q (not_itself rules a n))
          (λ m. never_met (before j n) (passed j m t));
    }
      where
        order : Order before
        order = rules_order rules a

        -- who goes before the new one would go before the one that was
        passed : (j : ℕ) → j < n → counts j ≡ true → before j n ≡ true → ⊥
        passed j l t s =
            ⊎_elim
            (λ u. clash (before j i) u (it.first j l t))
            (λ u. clash (before i n) u (order.one_way n i over))
            (order.between j i n s)

  -- where there is a candidate, one is foremost
  foremost_more : (n : ℕ) → (any_below n counts ≡ true → (i : ℕ) × Foremost n i) → any_below (n + 1) counts ≡ true →
      (i : ℕ) × Foremost (n + 1) i
  foremost_more n earlier h =
      ⊎_elim (λ t. let (i, it) = earlier t in after i it)
      (λ t. (n, foremost_only (or_last (rw (any_next counts n) at h) t) t)) (met_or_not (any_below n counts))
    where
      after : (i : ℕ) → Foremost n i → (j : ℕ) × Foremost (n + 1) j
      after i it =
          ⊎_elim
          (λ on. ⊎_elim (λ over. (n, foremost_new on over it)) (λ under. (i, foremost_kept under it))
          (met_or_not (before n i)))
          (λ off. (i, foremost_skip off it))
          (met_or_not (counts n))

  foremost_exists : (n : ℕ) → any_below n counts ≡ true → (i : ℕ) × Foremost n i
  unfolding any_below
  foremost_exists zero h = clash false h refl
  foremost_exists (suc n) h =
      rw add-one at (foremost_more n (foremost_exists n) (rw add-one h))

  -- and that is the one chosen
  pub chosen_found : (n : ℕ) → any_below n counts ≡ true → Foremost n (chosen rules in_force f a n r p)
  chosen_found n h = chosen_below (foremost_exists n h).1

  -- exactly one is chosen wherever there is a candidate
  pub one_chosen : (n i : ℕ) → i < n → candidate in_force f a r p i ≡ true →
      ExactlyOne n (is_chosen rules in_force f a n r p)
  one_chosen n i l t =
      let it = chosen_found n (any_found counts n i l t) in
      record {
        the = chosen rules in_force f a n r p;
        there = it.there;
        passes = foremost_chosen it;
        alone = λ j m s. sym (chosen_is (chosen_foremost m s));
      }

-- without rules the first candidate in table order is chosen
pub chosen_first : (in_force f : ℕ → Bool) (a : List ℕ) (n r p : ℕ) →
    chosen [] in_force f a n r p ≡ first_below n (candidate in_force f a r p)
unfolding goes_before
chosen_first in_force f a n r p = ⊎_elim some none (met_or_not (any_below n (candidate in_force f a r p)))
  where
    test : ℕ → Bool
    test = candidate in_force f a r p

    some : any_below n test ≡ true → chosen [] in_force f a n r p ≡ first_below n test
    some h = chosen_is [] in_force f a r p (record {
      there = first_lt test n h;
      passes = first_at test n (first_lt test n h);
      first = λ j l t.
          le-ltb j (first_below n test)
          (let low : j < first_below n test → ⊥ = λ m. clash (test j) t (first_least test n j m) in omega (arith, low));
    })

    none : any_below n test ≡ false → chosen [] in_force f a n r p ≡ first_below n test
    none h = chosen_nothing [] in_force f a r p n h ∙ sym (first_none test n h)
