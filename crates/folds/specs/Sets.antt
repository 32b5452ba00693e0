-- Sets of small numbers as one number: bit r for r.
use Rattle.std.specs.Prelude.{ℕ, ◌/◌, ◌%◌, ◌^◌, Bool, ◌||◌, not, cond, eqb}
use Rattle.folds.specs.Below.{all_below, sum_below}

-- r is in the set s
unfoldable pub in_set : ℕ → ℕ → Bool
in_set s r = eqb (s / 2 ^ r % 2) 1

-- the set of the numbers below n of which p holds
unfoldable pub set_below : ℕ → (ℕ → Bool) → ℕ
unfolding sum_below
set_below n p = sum_below n (λ r. cond (p r) (2 ^ r) 0)

-- each bit of v is in s; v has at most 32 bits
unfoldable pub contains : ℕ → ℕ → Bool
unfolding all_below
contains s v = all_below 32 (λ r. not (in_set v r) || in_set s r)
