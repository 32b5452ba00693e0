-- Tables of a value for each multiset of roles below d: the sum of the roles' weights, and their set.
use Rattle.std.specs.Prelude.{ℕ, suc, ◌+◌, ◌^◌, ◌<◌, ◌≤◌, cond, ◌≡◌, List, [], ◌∷◌, eqb, ltb, length, get_or}
use Rattle.std.specs.Int.Bits.{bit_or}
use Rattle.folds.specs.Sets.{set_below}
use Rattle.multisets.specs.Ranks.{starts, first, total}

-- the sum of f over a list of roles
abbrev pub sum_over : (ℕ → ℕ) → List ℕ → ℕ
sum_over f [] = 0
sum_over f (r ∷ z) = f r + sum_over f z

-- the set of a list of roles
abbrev pub set_of : List ℕ → ℕ
set_of [] = 0
set_of (r ∷ z) = bit_or (2 ^ r) (set_of z)

-- the table, which has room for all multisets of at most six roles below d, holds the value of each multiset of roles
-- below e that stands before place k
pub record Held (d e : ℕ) (value : ℕ → ℕ → ℕ) (t : List ℕ) (k : ℕ) : Type 0 where
  pub room : first d 7 ≤ length t
  pub each : (n m : ℕ) → n ≤ 6 → m < starts n e → first d n + m < k → get_or t (first d n + m) 0 ≡ value n m

-- the sum of the weights of the roles of multiset m of n, and of what is placed before
abbrev pub sum_at : List ℕ → ℕ → ℕ → ℕ → ℕ
sum_at w placed n m = placed + total (λ r. get_or w r 0) n m

-- 1 for role k alone: its sum is how often the role is there
abbrev pub one_if : ℕ → ℕ → ℕ
one_if k r = cond (eqb r k) 1 0

-- the set of the roles of multiset m of n
unfoldable pub set_at : ℕ → ℕ → ℕ
set_at n m = set_below 8 (λ k. ltb 0 (total (one_if k) n m))

-- weights of eight roles, at most 40 each
pub record Light (w : List ℕ) : Type 0 where
  pub most : (r : ℕ) → r < 8 → get_or w r 0 ≤ 40

-- the numbers g 0, g 1 and so on, `count` of them, are written from `to` on
pub record Written (g : ℕ → ℕ) (to count : ℕ) (t t' : List ℕ) : Type 0 where
  pub size : length t' ≡ length t
  pub here : (j : ℕ) → j < count → get_or t' (to + j) 0 ≡ g j
  pub before : (i : ℕ) → i < to → get_or t' i 0 ≡ get_or t i 0

-- a step makes of the values of n roles those of n + 1 below `end`: of multiset j, with role r more, the largest; by
-- what a step asks and gives
pub record Steps (end n : ℕ) (value : ℕ → ℕ → ℕ) (may : ℕ → ℕ → Type 0) (gives : ℕ → ℕ → ℕ → Type 0) : Type 0 where
  pub asks : (r j : ℕ) → r < end → j < starts n (suc r) → may (value n j) r
  pub makes : (r j y : ℕ) → r < end → j < starts n (suc r) → gives (value n j) r y →
      y ≡ value (suc n) (starts (suc n) r + j)
