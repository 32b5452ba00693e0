-- The least number of entries of a group that `granted` grants, for any `granted`. To be believed, not run.
use Rattle.std.specs.Prelude.{ℕ, zero, suc, Bool, cond, List, [], ◌∷◌, ltb, eqb}
use Rattle.folds.specs.Below.{any_below, first_below}
use Rattle.weights.specs.declared.Context.{Context}
use Rattle.decision.specs.Decision.{decision_of}

-- some n entries before the bytes g, every user byte and every role byte tried, are granted with them
unfoldable pub some_granted : (List ℕ → Bool) → ℕ → List ℕ → Bool
some_granted granted zero g = granted g
some_granted granted (suc n) g = any_below 256 (λ u. any_below 256 (λ r. some_granted granted n (u ∷ r ∷ g)))

-- the least n from 1 to 6 such that some group of n entries is granted, else 0
unfoldable pub smallest : (List ℕ → Bool) → ℕ
smallest granted =
    cond (ltb (first_below 6 (λ i. some_granted granted (suc i) [])) 6)
    (suc (first_below 6 (λ i. some_granted granted (suc i) [])))
    0

-- a decision: 0 where it grants a group a permission, else a refusal
abbrev pub Deciding : Type 0
Deciding = ℕ → List ℕ → ℕ

-- the smallest number of approvers for permission p: the decision, asked about every possible group
unfoldable pub smallest_by : Deciding → ℕ → ℕ
smallest_by decision p = smallest (λ g. eqb (decision p g) 0)

-- by the decision without a list
abbrev pub smallest_of : List ℕ → Context → ℕ → ℕ
smallest_of b at p = smallest_by (decision_of b at) p
