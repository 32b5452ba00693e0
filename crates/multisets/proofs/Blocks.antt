-- The blocks of the ranks, and a role more.
use Prim.Native.Nat.{ℕ, zero, suc, ◌+◌, ◌-◌, ◌*◌, ◌<◌, ◌≤◌}
use mathlib.Core.Bool.{Bool}
use mathlib.Core.Path.{◌≡◌, refl, ◌∙◌}
use mathlib.Core.Logic.{⊎_elim}
use mathlib.Core.List.{List, [], ◌∷◌}
use native.Mathlib.Omega.{arith}
use native.Mathlib.Nat.{le_trans, lt_of_lt_of_le, lt_of_not-le, lt_irrefl}
use borrow.Author.Tests.{lt-ltb, le-ltb, ltb-true, ltb-false}
use lib.Dec.{ltb, lit<}
use lib.ListN.{length}
use Rattle.folds.specs.Below.{first_below, sum_below}
use Rattle.folds.proofs.Bools.{met_or_not}
use Rattle.folds.proofs.Numbers.{sum_step, sum_le_sum}
use Rattle.folds.proofs.Tests.{first_is, first_lt, first_at, first_least, any_found}
use Rattle.multisets.specs.Ranks.{starts, top, total, more, rank_of, Roles}
use Rattle.multisets.specs.Values.{sum_over}

-- a block is as long as there are multisets of a role less
pub block : (n r : ℕ) → starts (suc n) (suc r) ≡ starts (suc n) r + starts n (suc r)
unfolding starts
block n r = sum_step (λ k. starts n (suc k)) r

pub starts_le : (n d e : ℕ) → d ≤ e → starts n d ≤ starts n e
unfolding starts
starts_le zero d e h = omega arith
starts_le (suc n) d e h = sum_le_sum (λ k. starts n (suc k)) d e h

pub starts_none : (n : ℕ) → starts (suc n) 0 ≡ 0
unfolding starts sum_below
starts_none n = refl

-- there is one empty multiset
pub starts_empty : (d : ℕ) → starts 0 d ≡ 1
unfolding starts
starts_empty d = refl

-- and one of each role alone
pub starts_one : (q : ℕ) → starts 1 q ≡ q
unfolding starts sum_below
starts_one zero = refl
starts_one (suc q) = rw (starts_one q) (omega arith)

-- multiset m of n + 1 lies in the block of one role
pub record InBlock (n m r : ℕ) : Type 0 where
  pub role : r < 8
  pub low : starts (suc n) r ≤ m
  pub high : m - starts (suc n) r < starts n (suc r)

pub in_block : (n m : ℕ) → m < starts (suc n) 8 → InBlock n m (top (suc n) m)
unfolding top
in_block n m h = record {
  role = low;
  low = least;
  high = omega (arith, block n r, ltb-true m _ (first_at p 8 low), least);
}
  where
    p : ℕ → Bool
    p r = ltb m (starts (suc n) (suc r))

    r : ℕ
    r = first_below 8 p

    low : r < 8
    low = first_lt p 8 (any_found p 8 7 (omega arith) (lt-ltb m _ h))

    starts_at : (r : ℕ) → ((k : ℕ) → k < r → starts (suc n) (suc k) ≤ m) → starts (suc n) r ≤ m
    starts_at zero h = rw (starts_none n) (omega arith)
    starts_at (suc r) h = h r (omega arith)

    least : starts (suc n) r ≤ m
    least = starts_at r (λ k l. ltb-false m _ (first_least p 8 k l))

-- the largest role, by the block
pub top_is : (n r j : ℕ) → r < 8 → j < starts n (suc r) → top (suc n) (starts (suc n) r + j) ≡ r
unfolding top
top_is n r j role l =
    let m = starts (suc n) r + j in
    let here = lt-ltb m (starts (suc n) (suc r)) (omega (arith, block n r)) in
    first_is (λ k. ltb m (starts (suc n) (suc k))) 8 r role here
    (λ k h. le-ltb m (starts (suc n) (suc k)) (omega (arith, starts_le (suc n) (suc k) r h)))

pub total_none : (f : ℕ → ℕ) (m : ℕ) → total f 0 m ≡ 0
unfolding total
total_none f m = refl

-- the sum and the rank with a role more, by the block
module _ (n r j : ℕ) (role : r < 8) (l : j < starts n (suc r)) where
  rest : starts (suc n) r + j - starts (suc n) r ≡ j
  rest = omega arith

  pub total_block : (f : ℕ → ℕ) → total f (suc n) (starts (suc n) r + j) ≡ total f n j + f r
  unfolding total
  total_block f = rw (top_is n r j role l, rest)

  pub more_low : (q : ℕ) → q < r → more (suc n) (starts (suc n) r + j) q ≡ starts (suc (suc n)) r + more n j q
  unfolding more
  more_low q h = rw (top_is n r j role l, rest, lt-ltb q r h)

  pub more_high : (q : ℕ) → r ≤ q →
      more (suc n) (starts (suc n) r + j) q ≡ starts (suc (suc n)) q + (starts (suc n) r + j)
  unfolding more
  more_high q h = rw (top_is n r j role l, rest, le-ltb q r h)

pub more_none : (m q : ℕ) → more 0 m q ≡ q
unfolding more
more_none m q = refl

-- multiset x of n + 1 has the roles of multiset m of n and a role r more; where these are below d, so are those of x
record Grown (n m r x : ℕ) : Type 0 where
  sums : (f : ℕ → ℕ) → total f (suc n) x ≡ total f n m + f r
  within : (d : ℕ) → m < starts n d → r < d → x < starts (suc n) d

-- a role more that is the largest then
grown_high : (n m q : ℕ) → q < 8 → m < starts n (suc q) → Grown n m q (starts (suc n) q + m)
grown_high n m q role l = record {
  sums = λ f. total_block n q m role l f;
  within = λ d h k. omega (arith, block n q, starts_le (suc n) (suc q) d k);
}

-- a role more below the largest goes into what is left without the largest
grown_low : (n r j q y : ℕ) → r < 8 → j < starts n (suc r) → q < r → Grown n j q y →
    Grown (suc n) (starts (suc n) r + j) q (starts (suc (suc n)) r + y)
grown_low n r j q y role l less g = record {
  sums = λ f. total_block (suc n) r y role k f ∙ rw (g.sums f, total_block n r j role l f) (omega arith);
  within = λ d h low. omega (arith, k, block (suc n) r, starts_le (suc (suc n)) (suc r) d (there d h));
}
  where
    k : y < starts (suc n) (suc r)
    k = g.within (suc r) l (omega arith)

    there : (d : ℕ) → starts (suc n) r + j < starts (suc n) d → r < d
    there d h =
        lt_of_not-le (λ (c : d ≤ r).
        let back : starts (suc n) d ≤ starts (suc n) r + j = omega (arith, starts_le (suc n) d r c) in
        lt_irrefl (starts (suc n) r + j) (lt_of_lt_of_le h back))

-- a role more, by the block that the multiset lies in
grown_in : (n m q : ℕ) → m < starts (suc n) 8 → q < 8 → ((j : ℕ) → j < starts n 8 → Grown n j q (more n j q)) →
    Grown (suc n) m q (more (suc n) m q)
grown_in n m q h role rest =
    rw is (⊎_elim (λ t. low (ltb-true q r t)) (λ t. high (ltb-false q r t)) (met_or_not (ltb q r)))
  where
    r : ℕ
    r = top (suc n) m

    b : InBlock n m r
    b = in_block n m h

    j : ℕ
    j = m - starts (suc n) r

    is : m ≡ starts (suc n) r + j
    is = let l = b.low in omega arith

    few : j < starts n 8
    few = omega (arith, b.high, starts_le n (suc r) 8 b.role)

    low : q < r → Grown (suc n) (starts (suc n) r + j) q (more (suc n) (starts (suc n) r + j) q)
    low l = rw (more_low n r j b.role b.high q l) (grown_low n r j q _ b.role b.high l (rest j few))

    high : r ≤ q → Grown (suc n) (starts (suc n) r + j) q (more (suc n) (starts (suc n) r + j) q)
    high l =
        let further = starts_le (suc n) (suc r) (suc q) (omega arith) in
        let there : starts (suc n) r + j < starts (suc n) (suc q) = omega (arith, b.high, block n r) in
        rw (more_high n r j b.role b.high q l) (grown_high (suc n) (starts (suc n) r + j) q role there)

grown : (n m q : ℕ) → m < starts n 8 → q < 8 → Grown n m q (more n m q)
grown zero m q h role =
    let e : m ≡ 0 = omega (arith, starts_empty 8) in
    let z : starts 1 q + 0 ≡ q = rw (starts_one q) (omega arith) in
    rw (more_none m q, e) (rw z at (grown_high 0 0 q role (rw (starts_empty (suc q)) (lit< tt))))
grown (suc n) m q h role = grown_in n m q h role (λ j l. grown n j q l role)

module _ (n m q : ℕ) (some : m < starts n 8) (role : q < 8) where
  -- a role more adds its value
  pub more_total : (f : ℕ → ℕ) → total f (suc n) (more n m q) ≡ total f n m + f q
  more_total f = (grown n m q some role).sums f

  -- and a multiset of roles below d with one of them more is one
  pub more_lt : (d : ℕ) → m < starts n d → q < d → more n m q < starts (suc n) d
  more_lt d h l = (grown n m q some role).within d h l

-- roles below d are below any larger one
pub roles_le : (d e : ℕ) → d ≤ e → (z : List ℕ) → Roles d z → Roles e z
roles_le d e h [] roles = tt
roles_le d e h (r ∷ z) roles = (lt_of_lt_of_le roles.0 h, roles_le d e h z roles.1)

-- the rank of roles below d is one of those
pub rank_lt : (d : ℕ) → d ≤ 8 → (z : List ℕ) → Roles d z → rank_of z < starts (length z) d
rank_lt d most [] roles = rw (starts_empty d) (lit< tt)
rank_lt d most (r ∷ z) roles =
    let k = rank_lt d most z roles.1 in
    let some = lt_of_lt_of_le k (starts_le (length z) d 8 most) in
    more_lt (length z) (rank_of z) r some (lt_of_lt_of_le roles.0 most) d k roles.0

-- and the multiset of that rank has these roles
pub rank_total : (f : ℕ → ℕ) (z : List ℕ) → Roles 8 z → total f (length z) (rank_of z) ≡ sum_over f z
rank_total f [] roles = total_none f 0
rank_total f (r ∷ z) roles =
    more_total (length z) (rank_of z) r (rank_lt 8 (omega arith) z roles.1) roles.0 f
    ∙ rw (rank_total f z roles.1) (omega arith)

-- multiset m of n + 1 roles below d: its largest role and what is left without it
pub record Taken (d n m : ℕ) : Type 0 where
  pub r : ℕ
  pub j : ℕ
  pub role : r < d
  pub high : j < starts n (suc r)
  pub is : m ≡ starts (suc n) r + j

pub taken : (d n m : ℕ) → d ≤ 8 → m < starts (suc n) d → Taken d n m
taken d n m most l = record {
  r = top (suc n) m;
  j = m - starts (suc n) (top (suc n) m);
  role = lt_of_not-le (λ (c : d ≤ top (suc n) m).
      lt_irrefl m (lt_of_lt_of_le l (le_trans (starts_le (suc n) d _ c) b.low)));
  high = b.high;
  is = let k = b.low in omega arith;
}
  where
    b : InBlock n m (top (suc n) m)
    b = in_block n m (lt_of_lt_of_le l (starts_le (suc n) d 8 most))

-- a sum of n values of at most c
pub total_le : (f : ℕ → ℕ) (c d : ℕ) → d ≤ 8 → ((r : ℕ) → r < d → f r ≤ c) →
    (n m : ℕ) → m < starts n d → total f n m ≤ n * c
total_le f c d most h zero m l = rw (total_none f m) (omega arith)
total_le f c d most h (suc n) m l =
    let t = taken d n m most l in
    let before = total_le f c d most h n t.j (lt_of_lt_of_le t.high (starts_le n (suc t.r) d t.role)) in
    rw (t.is, total_block n t.r t.j (lt_of_lt_of_le t.role most) t.high f)
    (omega (arith, before, h t.r t.role))
