-- The tables of a search, made level by level: what is known of the multisets of at most n roles below d.
use Rattle.std.specs.Prelude.{ℕ, suc, ◌+◌, ◌*◌, ◌<◌, ◌≤◌, ◌≡◌, List, length, get_or}
use Rattle.multisets.specs.Ranks.{starts, first, more}
use Rattle.multisets.specs.declared.Weighing.{Weighing}
use Rattle.multisets.specs.declared.ends.Users.{Users}
use Rattle.multisets.specs.declared.growth.Reached.{Reached}
use Rattle.multisets.specs.Values.{Held, sum_at, set_at}
use Rattle.multisets.specs.Ends.{Filled}

-- the eight numbers from `at` on: how far the rank of multiset m of n with each role more lies behind m
pub record Ups (n m : ℕ) (t : List ℕ) (at : ℕ) : Type 0 where
  pub role : (q : ℕ) → q < 8 → get_or t (at + q) 0 + m ≡ more n m q

-- these numbers, at 8 times the place, for the multisets of at most four roles that stand before place k
pub record Rows (d k : ℕ) (t : List ℕ) : Type 0 where
  pub room : 8 * first d 5 ≤ length t
  pub row : (n m : ℕ) → n ≤ 4 → m < starts n d → first d n + m < k → Ups n m t (8 * (first d n + m))

-- for a multiset of n + 1 roles whose largest is r: how far it lies behind with role q more, as far as r and q tell
pub record Fixed (n r : ℕ) (a : List ℕ) : Type 0 where
  pub size : length a ≡ 8
  pub below : (q : ℕ) → q < r → q < 8 → get_or a q 0 + starts (suc n) r ≡ starts (suc (suc n)) r
  pub above : (q : ℕ) → r ≤ q → q < 8 → get_or a q 0 ≡ starts (suc (suc n)) q
  pub most : (q : ℕ) → q < 8 → get_or a q 0 ≤ 3003

-- and for which roles what lies behind without the largest comes to that: 1 for those below r, else 0
pub record Kept (r : ℕ) (a : List ℕ) : Type 0 where
  pub size : length a ≡ 8
  pub below : (q : ℕ) → q < r → q < 8 → get_or a q 0 ≡ 1
  pub above : (q : ℕ) → r ≤ q → q < 8 → get_or a q 0 ≡ 0

-- of the multisets reached, those before place k have led on, by these users' next ends
abbrev pub LedOn : {places : ℕ} → Users → ℕ → Reached places → Type 0
LedOn users k reached = Filled users.d users.nexts (8 * k) reached.ends reached.from

-- what a multiset needs to lead on: it is multiset m of n, at place i, and m lies at `next` among those of a role more
pub record Pushing (d : ℕ) (nexts up : List ℕ) (i next : ℕ) (ends from : List ℕ) : Type 0 where
  pub n : ℕ
  pub m : ℕ
  pub few : n ≤ 5
  pub some : m < starts n d
  pub place : i ≡ first d n + m
  pub ahead : next ≡ first d (suc n) + m
  pub size : length up ≡ 8
  pub ups : Ups n m up 0
  pub filled : Filled d nexts (8 * i) ends from

-- what depends on no user, for the levels up to n: the sets of roles, and the rows by which the levels before lead on
pub record Shaped (d n : ℕ) (t roles : List ℕ) : Type 0 where
  pub most : n ≤ 6
  pub rows : Rows d (first d n) t
  pub held : Held d d set_at roles (first d (suc n))

-- the table holds the sums that a search weighs by, of the multisets of roles below its end that stand before place k
abbrev pub Summed : ℕ → Weighing → List ℕ → ℕ → Type 0
Summed d weighing t k = Held d weighing.end (sum_at weighing.w weighing.placed) t k

-- placed before and n entries more, of at most 40 each, their sums fit a byte
abbrev pub SumsFit : Weighing → ℕ → Type 0
SumsFit weighing n = weighing.placed + n * 40 ≤ 255
