-- Multisets of n roles by rank: those of role 0 alone come first, then those whose largest role is 1, and so on; those
-- whose largest role is r are, in order, the first multisets of n - 1 roles, each with one r more. So those of the
-- roles below d come before all others.
use Rattle.std.specs.Prelude.{ℕ, zero, suc, ◌+◌, ◌-◌, ◌*◌, ◌<◌, ◌≤◌, cond, ◌≡◌, List, [], ◌∷◌, ltb, length, get_or}
use Rattle.folds.specs.Below.{sum_below, first_below}

-- how many multisets of n roles below d there are, and so the rank at which those of n roles with d as the largest
-- start
unfoldable pub starts : ℕ → ℕ → ℕ
unfolding sum_below
starts zero d = 1
starts (suc n) d = sum_below d (λ k. starts n (suc k))

-- the largest role of multiset m of n
unfoldable pub top : ℕ → ℕ → ℕ
unfolding starts first_below
top n m = first_below 8 (λ r. ltb m (starts n (suc r)))

-- the sum of f over the roles of multiset m of n
unfoldable pub total : (ℕ → ℕ) → ℕ → ℕ → ℕ
unfolding starts top
total f zero m = 0
total f (suc n) m = total f n (m - starts (suc n) (top (suc n) m)) + f (top (suc n) m)

-- the rank of multiset m of n with a role q more: q is the largest then, or it goes into what is left without the
-- largest
unfoldable pub more : ℕ → ℕ → ℕ → ℕ
unfolding starts top
more zero m q = q
more (suc n) m q =
    cond (ltb q (top (suc n) m))
    (starts (suc (suc n)) (top (suc n) m) + more n (m - starts (suc n) (top (suc n) m)) q)
    (starts (suc (suc n)) q + m)

-- the rank of the roles of a list
abbrev pub rank_of : List ℕ → ℕ
rank_of [] = 0
rank_of (r ∷ z) = more (length z) (rank_of z) r

-- the roles of a list are below d
abbrev pub Roles : ℕ → List ℕ → Type 0
Roles d [] = Unit {0}
Roles d (r ∷ z) = (r < d) × Roles d z

-- tables over the multisets of roles below d have those of no role first, then those of one, and so on: where those of
-- n start
unfoldable pub first : ℕ → ℕ → ℕ
unfolding sum_below starts
first d n = sum_below n (λ i. starts i d)

-- the table of starts, at 10 times n and d
pub record Starts (s : List ℕ) : Type 0 where
  pub size : length s ≡ 70
  pub start : (n d : ℕ) → n ≤ 6 → d ≤ 9 → get_or s (10 * n + d) 0 ≡ starts n d
  pub most : (n d : ℕ) → n ≤ 6 → d ≤ 9 → get_or s (10 * n + d) 0 ≤ 3003
