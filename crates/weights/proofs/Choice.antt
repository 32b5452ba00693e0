-- The policy that counts: how heavy it is, and what it depends on.
use Prim.Native.Nat.{ℕ, ◌+◌, ◌*◌, ◌<◌, ◌≤◌}
use mathlib.Core.Bool.{Bool, true, false, ◌&&◌, and-false}
use mathlib.Core.Path.{◌≡◌, refl}
use mathlib.Core.Logic.{⊎_elim}
use mathlib.Core.List.{List}
use native.Mathlib.Omega.{arith}
use borrow.Author.Tests.{eqb-true, eqb-false, eq-eqb, ne_eqb, lt-ltb, le-ltb, ltb-true}
use lib.ListN.{replicate, get_or-replicate}
use lib.Dec.{ltb, eqb}
use Rattle.folds.specs.Below.{any_below}
use Rattle.folds.proofs.Bools.{met_or_not}
use Rattle.folds.proofs.Tests.{any_each, any_same, first_same}
use Rattle.reader.specs.Fields.{policy_role, policy_permission, policy_weight, policy_type, policy_context}
use Rattle.resolution.specs.Resolution.{goes_before}
use Rattle.weights.specs.Weights.{candidate, is_chosen, chosen, chosen_weight}
use Rattle.weights.specs.Setting.{Vacant}
use Rattle.weights.proofs.Foremost.{Foremost, chosen_is, chosen_nothing}

module _ (rules : List ℕ) (in_force f : ℕ → Bool) (a : List ℕ) (r p : ℕ) where
  -- no candidate: nothing counts
  pub chosen_zero : (n : ℕ) → ((i : ℕ) → i < n → candidate in_force f a r p i ≡ false) →
      chosen_weight rules in_force f a n r p ≡ 0
  unfolding chosen_weight
  chosen_zero n h =
      let none = any_each (candidate in_force f a r p) n h in
      rw (chosen_nothing rules in_force f a r p n none, le-ltb n n (omega arith))

  -- the weight is that of the policy that no other goes before
  pub chosen_weighs : {n i : ℕ} → Foremost rules in_force f a r p n i →
      chosen_weight rules in_force f a n r p ≡ policy_weight a i
  unfolding chosen_weight
  chosen_weighs it = rw (chosen_is rules in_force f a r p it, lt-ltb _ _ it.there)

  -- what counts is at most as heavy as the heaviest
  pub chosen_le : (c n : ℕ) → ((i : ℕ) → i < n → policy_weight a i ≤ c) → chosen_weight rules in_force f a n r p ≤ c
  unfolding chosen_weight
  chosen_le c n h =
      ⊎_elim (λ e. rw e (h _ (ltb-true _ _ e))) (λ e. rw e (omega arith))
      (met_or_not (ltb (chosen rules in_force f a n r p) n))

-- which policy counts depends on the context numbers that the policies name
pub chosen_same : (rules : List ℕ) (in_force others f : ℕ → Bool) (a : List ℕ) (r p n : ℕ) →
    ((i : ℕ) → i < n → in_force (policy_context a i) ≡ others (policy_context a i)) →
    chosen_weight rules in_force f a n r p ≡ chosen_weight rules others f a n r p
unfolding chosen_weight chosen is_chosen
chosen_same rules in_force others f a r p n h =
    rw (first_same (is_chosen rules in_force f a n r p) (is_chosen rules others f a n r p) n
    (λ i l. rw (h i l, over i)))
  where
    over : (i : ℕ) →
        any_below n (λ j. candidate in_force f a r p j && goes_before rules a j i)
        ≡ any_below n (λ j. candidate others f a r p j && goes_before rules a j i)
    over i =
        any_same (λ j. candidate in_force f a r p j && goes_before rules a j i)
        (λ j. candidate others f a r p j && goes_before rules a j i) n
        (λ j m. rw (h j m))

-- no two roles and permissions share a place
pub place_eqb : (s q r p : ℕ) → s < 8 → r < 8 → eqb (8 * q + s) (8 * p + r) ≡ (eqb s r && eqb q p)
place_eqb s q r p l m = by (eqb s r) (eqb q p) refl refl
  where
    by : (x y : Bool) → eqb s r ≡ x → eqb q p ≡ y → eqb (8 * q + s) (8 * p + r) ≡ (x && y)
    by true true e g =
        let f : s ≡ r = eqb-true _ _ e in
        let h : q ≡ p = eqb-true _ _ g in
        eq-eqb (8 * q + s) (8 * p + r) (omega arith)
    by true false e g = ne_eqb (8 * q + s) (8 * p + r) (λ h. eqb-false q p g (omega arith))
    by false y e g = ne_eqb (8 * q + s) (8 * p + r) (λ h. eqb-false s r e (omega arith))

-- a policy that isn't active, or whose type doesn't pass, is no candidate of any role and permission
pub off_context : (in_force f : ℕ → Bool) (a : List ℕ) (i : ℕ) → in_force (policy_context a i) ≡ false → (r p : ℕ) →
    candidate in_force f a r p i ≡ false
off_context in_force f a i off r p =
    rw (off, and-false (f (policy_type a i)), and-false (eqb (policy_role a i) r && eqb (policy_permission a i) p))

pub off_type : (in_force f : ℕ → Bool) (a : List ℕ) (i : ℕ) → f (policy_type a i) ≡ false → (r p : ℕ) →
    candidate in_force f a r p i ≡ false
off_type in_force f a i off r p = rw (off, and-false (eqb (policy_role a i) r && eqb (policy_permission a i) p))

-- arrays of zeros
pub vacant : Vacant (replicate 128 0)
vacant = record { size = refl; zero = λ i l. get_or-replicate 128 i 0 0 l }
