-- Where the multisets of n roles below d stand in a table.
use Prim.Native.Nat.{ℕ, zero, suc, ◌+◌, ◌<◌, ◌≤◌}
use mathlib.Core.Path.{◌≡◌, refl, ◌∙◌}
use native.Mathlib.Omega.{arith}
use Rattle.folds.specs.Below.{sum_below}
use Rattle.multisets.specs.Ranks.{starts, first, more}
use Rattle.multisets.specs.Ends.{Grows}
pub use Rattle.multisets.specs.Laid.{first_more, first_le, one_level, grows_one}
use Rattle.multisets.proofs.Blocks.{block, starts_le, starts_empty, more_lt}

module _ (d : ℕ) where
  pub first_0 : first d 0 ≡ 0
  unfolding first sum_below
  first_0 = refl

  -- as many places lie before as there are multisets of a role less with one role more to take
  pub first_is : (n : ℕ) → first d (suc n) ≡ starts n (suc d)
  first_is zero = rw (first_more d 0, first_0, starts_empty d, starts_empty (suc d))
  first_is (suc n) = rw (first_more d (suc n), first_is n, block n d) (omega arith)

  pub first_1 : first d 1 ≡ 1
  first_1 = first_is 0 ∙ starts_empty (suc d)

  -- a multiset stands before those of a role more
  pub place_lt : (n m : ℕ) → m < starts n d → first d n + m < first d (suc n)
  place_lt n m h = omega (arith, first_more d n)

-- with more roles there are more multisets
pub first_mono : (d e n : ℕ) → d ≤ e → first d n ≤ first e n
first_mono d e zero h = rw (first_0 d, first_0 e) (omega arith)
first_mono d e (suc n) h = rw (first_is d n, first_is e n) (starts_le n (suc d) (suc e) (omega arith))

-- for at most eight roles there are 3,003 places in all, and 1,287 of at most five roles
all_places : first 8 7 ≡ 3003
unfolding first sum_below starts
all_places = refl

five_places : first 8 6 ≡ 1287
unfolding first sum_below starts
five_places = refl

pub first_all : (d : ℕ) → d ≤ 8 → first d 7 ≤ 3003
first_all d h = omega (arith, first_mono d 8 7 h, all_places)

pub first_five : (d : ℕ) → d ≤ 8 → first d 6 ≤ 1287
first_five d h = omega (arith, first_mono d 8 6 h, five_places)

-- an entry: a multiset of at most five roles with one more
module _ (d n m q k : ℕ) (most : d ≤ 8) (g : Grows d n m q k) where
  some : m < starts n 8
  some = omega (arith, g.some, starts_le n d 8 most)

  -- the place that it leads to lies among those of a role more
  pub grows_lt : more n m q < starts (suc n) d
  grows_lt = more_lt n m q some (let l = g.role in omega arith) d g.some g.role

  pub grows_within : first d (suc n) + more n m q < first d 7
  grows_within =
      let few = g.few in
      omega (arith, place_lt d (suc n) (more n m q) grows_lt, first_le d (suc (suc n)) 7 (omega arith))

  -- behind the multiset itself
  pub grows_ahead : first d n + m < first d (suc n) + more n m q
  grows_ahead = omega (arith, place_lt d n m g.some)
