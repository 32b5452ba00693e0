-- Which policy counts in own and in inh, in the words of request Four: exactly one wherever one is active, by any list
-- of rules and by none; without a list the first active one in table order, as before.
use Prim.Native.Nat.{ℕ, ◌<◌}
use mathlib.Core.Bool.{Bool, true, cond}
use mathlib.Core.List.{List, []}
use mathlib.Core.Path.{◌≡◌, refl}
use borrow.Author.Tests.{eq-eqb}
use lib.Dec.{ltb}
use Rattle.folds.specs.Below.{first_below}
use Rattle.folds.proofs.Bools.{and_both}
use Rattle.reader.specs.Tables.{contexts, policies, table_of, policy_count}
use Rattle.reader.specs.Fields.{policy_role, policy_permission, policy_weight, policy_type, policy_context}
use Rattle.weights.specs.declared.Context.{Context}
use Rattle.weights.specs.Contexts.{context_holds}
use Rattle.weights.specs.Weights.{candidate, is_chosen, ExactlyOne, chosen_weight, any_type, type_one, own, inh}
use Rattle.weights.proofs.Foremost.{chosen_foremost, chosen_first, one_chosen}
use Rattle.weights.proofs.Choice.{chosen_weighs}

module _ (b : List ℕ) (at : Context) (r p : ℕ) where
  abbrev a : List ℕ
  a = table_of b policies

  abbrev holds : ℕ → Bool
  holds = context_holds at (table_of b contexts)

  -- policy i is an active one of role r for permission p
  pub record ActiveFor (i : ℕ) : Type 0 where
    pub there : i < policy_count b
    pub role : policy_role (table_of b policies) i ≡ r
    pub permission : policy_permission (table_of b policies) i ≡ p
    pub active : context_holds at (table_of b contexts) (policy_context (table_of b policies) i) ≡ true

  -- policy i is the one chosen in own, and in inh
  abbrev pub in_own : List ℕ → ℕ → Bool
  in_own rules = is_chosen rules holds any_type a (policy_count b) r p

  abbrev pub in_inh : List ℕ → ℕ → Bool
  in_inh rules = is_chosen rules holds type_one a (policy_count b) r p

  passes : (f : ℕ → Bool) (i : ℕ) → ActiveFor i → f (policy_type a i) ≡ true → candidate holds f a r p i ≡ true
  passes f i it fits =
      and_both (and_both (eq-eqb _ _ it.role) (eq-eqb _ _ it.permission)) (and_both fits it.active)

  module _ (rules : List ℕ) where
    -- exactly one is chosen in own where one is active, and in inh where one of type 1 is
    pub own_one : (i : ℕ) → ActiveFor i → ExactlyOne (policy_count b) (in_own rules)
    own_one i it =
        one_chosen rules holds any_type a r p (policy_count b) i it.there (passes any_type i it refl)

    pub inh_one : (i : ℕ) → ActiveFor i → policy_type (table_of b policies) i ≡ 1 →
        ExactlyOne (policy_count b) (in_inh rules)
    inh_one i it one =
        one_chosen rules holds type_one a r p (policy_count b) i it.there (passes type_one i it (eq-eqb _ _ one))

    -- and its weight is what counts
    pub own_weighs : (i : ℕ) → i < policy_count b → in_own rules i ≡ true →
        own rules b at r p ≡ policy_weight (table_of b policies) i
    unfolding own
    own_weighs i l h =
        chosen_weighs rules holds any_type a r p (chosen_foremost rules holds any_type a r p l h)

    pub inh_weighs : (i : ℕ) → i < policy_count b → in_inh rules i ≡ true →
        inh rules b at r p ≡ policy_weight (table_of b policies) i
    unfolding inh
    inh_weighs i l h =
        chosen_weighs rules holds type_one a r p (chosen_foremost rules holds type_one a r p l h)

  -- without a list: the weight of the first active policy in table order, or 0
  abbrev first_weight : (ℕ → Bool) → ℕ
  first_weight f =
      cond (ltb (first_below (policy_count b) (candidate holds f a r p)) (policy_count b))
      (policy_weight a (first_below (policy_count b) (candidate holds f a r p))) 0

  pub own_first : own [] b at r p ≡ first_weight any_type
  unfolding own chosen_weight
  own_first = rw (chosen_first holds any_type a (policy_count b) r p)

  pub inh_first : inh [] b at r p ≡ first_weight type_one
  unfolding inh chosen_weight
  inh_first = rw (chosen_first holds type_one a (policy_count b) r p)
