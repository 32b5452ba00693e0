-- A group with an entry in front: the entries behind it, and number, sum and set with it.
use Prim.Native.Nat.{ℕ, zero, suc, ◌+◌, ◌*◌, ◌^◌, ◌<◌}
use mathlib.Core.Bool.{Bool, ◌||◌}
use mathlib.Core.Path.{◌≡◌, ap}
use mathlib.Core.List.{List, ◌∷◌}
use native.Mathlib.Omega.{arith}
use lib.Bits.{bit_or, or_lt}
use lib.Dec.{eqb}
use lib.Pow.{pow-lt}
use Rattle.folds.proofs.Bools.{eqb_sym}
use Rattle.folds.proofs.Tests.{any_first, any_same}
use Rattle.folds.proofs.Numbers.{sum_first, sum_same}
use Rattle.folds.proofs.Sets.{in_one, in_or, in_set_lem, set_lt, same_set}
use Rattle.decision.specs.Groups.{entry_count, entry_user, entry_role, acted_in, sum_of, roles_of}

module _ (u r : ℕ) (l : List ℕ) where
  -- number, users and roles
  pub front_count : entry_count (u ∷ r ∷ l) ≡ suc (entry_count l)
  front_count = omega arith

  pub later_user : (i : ℕ) → entry_user (u ∷ r ∷ l) (suc i) ≡ entry_user l i
  later_user i = let e : 2 * suc i ≡ suc (suc (2 * i)) = omega arith in rw e

  pub later_role : (i : ℕ) → entry_role (u ∷ r ∷ l) (suc i) ≡ entry_role l i
  later_role i = let e : 2 * suc i + 1 ≡ suc (suc (2 * i + 1)) = omega arith in rw e

  -- what is true of the entry in front and of each behind it is true of each
  pub front_each : (P : ℕ → ℕ → Type 0) → P u r → ((i : ℕ) → i < entry_count l → P (entry_user l i) (entry_role l i)) →
      (i : ℕ) → i < entry_count (u ∷ r ∷ l) → P (entry_user (u ∷ r ∷ l) i) (entry_role (u ∷ r ∷ l) i)
  front_each P first others zero h = first
  front_each P first others (suc i) h = rw (later_user i, later_role i) (others i (omega arith))

  -- the sum
  pub front_sum : (weigh : ℕ → ℕ) → sum_of weigh (u ∷ r ∷ l) ≡ weigh r + sum_of weigh l
  unfolding sum_of
  front_sum weigh =
      let weight_at : ℕ → ℕ = λ i. weigh (entry_role (u ∷ r ∷ l) i) in
      rw (front_count, sum_first weight_at (entry_count l))
      (ap (λ (x : ℕ). weigh r + x) (sum_same _ _ (entry_count l) (λ i h. ap weigh (later_role i))))

  -- the set
  front_acted : (k : ℕ) → acted_in (u ∷ r ∷ l) k ≡ (eqb r k || acted_in l k)
  unfolding acted_in
  front_acted k =
      let acts : ℕ → Bool = λ i. eqb (entry_role (u ∷ r ∷ l) i) k in
      rw (front_count, any_first acts (entry_count l))
      (ap (λ (x : Bool). eqb r k || x) (any_same _ _ (entry_count l) (λ i h. ap (λ (s : ℕ). eqb s k) (later_role i))))

  pub front_roles : r < 8 → roles_of (u ∷ r ∷ l) ≡ bit_or (2 ^ r) (roles_of l)
  unfolding roles_of
  front_roles low =
      same_set 8 _ _ (set_lt (acted_in (u ∷ r ∷ l)) 8)
      (or_lt 8 (2 ^ r) (roles_of l) (pow-lt low) (set_lt (acted_in l) 8))
      (λ k h. rw (in_set_lem (acted_in (u ∷ r ∷ l)) 8 k h, in_or, in_set_lem (acted_in l) 8 k h, in_one, eqb_sym k r)
      (front_acted k))
