-- Folds over the numbers below n. Each table loop of the library is one of these.
use Rattle.std.specs.Prelude.{ℕ, zero, suc, ◌+◌, ◌*◌, List, [], ◌++◌, Bool, true, false, ◌&&◌, ◌||◌, cond}

-- p holds of each number below n
unfoldable pub all_below : ℕ → (ℕ → Bool) → Bool
all_below zero p = true
all_below (suc n) p = all_below n p && p n

-- p holds of some number below n
unfoldable pub any_below : ℕ → (ℕ → Bool) → Bool
any_below zero p = false
any_below (suc n) p = any_below n p || p n

-- the least number below n of which p holds; n where there is none
unfoldable pub first_below : ℕ → (ℕ → Bool) → ℕ
unfolding any_below
first_below zero p = 0
first_below (suc n) p = cond (any_below n p) (first_below n p) (cond (p n) n (suc n))

-- f 0 + .. + f (n - 1)
unfoldable pub sum_below : ℕ → (ℕ → ℕ) → ℕ
sum_below zero f = 0
sum_below (suc n) f = sum_below n f + f n

-- f 0 * .. * f (n - 1)
unfoldable pub product_below : ℕ → (ℕ → ℕ) → ℕ
product_below zero f = 1
product_below (suc n) f = product_below n f * f n

-- of how many numbers below n p holds
unfoldable pub count_below : ℕ → (ℕ → Bool) → ℕ
unfolding sum_below
count_below n p = sum_below n (λ i. cond (p i) 1 0)

-- f 0, .. , f (n - 1) one behind the other
unfoldable pub join_below : ℕ → (ℕ → List ℕ) → List ℕ
join_below zero f = []
join_below (suc n) f = join_below n f ++ f n
