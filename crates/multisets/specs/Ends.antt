-- The least ends of groups by the multiset of their roles: one past the last user, 255 where no group acts in these
-- roles.
use Rattle.std.specs.Prelude.{ℕ, zero, suc, ◌+◌, ◌-◌, ◌*◌, ◌/◌, ◌%◌, ◌<◌, ◌≤◌, true, false, ◌≡◌, List, []}
use Rattle.std.specs.Prelude.{◌∷◌, length, get_or, set}
use Rattle.folds.specs.Sets.{in_set}
use Rattle.multisets.specs.Ranks.{starts, first, more, rank_of}
use Rattle.multisets.specs.Rising.{Entry}
use Rattle.multisets.specs.Standing.{Stands, end_of, role_list}

-- u is the first user from `from` on who may act in role r, or the number of users
pub record Next (sets : List ℕ) (from r u : ℕ) : Type 0 where
  pub low : from ≤ u
  pub high : u ≤ length sets
  pub found : u < length sets → in_set (get_or sets u 0) r ≡ true
  pub first : (v : ℕ) → from ≤ v → v < u → in_set (get_or sets v 0) r ≡ false

-- an end: one past the first user from `from` on who may act in role r, or 255 where there is none
pub record NextEnd (sets : List ℕ) (from r end : ℕ) : Type 0 where
  pub some : end < 255 → (u : ℕ) × (u < length sets) × (end ≡ u + 1) × Next sets from r u
  pub none : 255 ≤ end → (u : ℕ) → u < length sets → Next sets from r u → ⊥

-- these ends for 24 users, at 8 times a place and a role
pub record NextEnds (sets ends : List ℕ) : Type 0 where
  pub users : length sets ≡ 24
  pub size : length ends ≡ 200
  pub end : (from r : ℕ) → from ≤ 24 → r < 8 → NextEnd sets from r (get_or ends (8 * from + r) 0)

-- a table of 200 next ends: each is 255 or that of one of 24 users
pub record NextTable (nexts : List ℕ) : Type 0 where
  pub size : length nexts ≡ 200
  pub within : (i : ℕ) → i < 200 → get_or nexts i 0 < 255 → get_or nexts i 0 ≤ 24

-- the smaller end at a place, and by which entry k it came
pub record Relaxed (ends from : List ℕ) (at end k : ℕ) (ends' from' : List ℕ) : Type 0 where
  pub kept : get_or ends at 0 ≤ end → (ends' ≡ ends) × (from' ≡ from)
  pub stored : end < get_or ends at 0 → (ends' ≡ set ends at end) × (from' ≡ set from at k)

-- an entry: multiset m of n with a role q more, at 8 times the multiset's place and the role
pub record Grows (d n m q k : ℕ) : Type 0 where
  pub few : n ≤ 5
  pub some : m < starts n d
  pub role : q < d
  pub is : k ≡ 8 * (first d n + m) + q

-- the end at place x came by entry c, one of the first k
pub record Came (d : ℕ) (nexts : List ℕ) (k : ℕ) (ends : List ℕ) (x c : ℕ) : Type 0 where
  pub n : ℕ
  pub m : ℕ
  pub q : ℕ
  pub grows : Grows d n m q c
  pub early : c < k
  pub reached : get_or ends (first d n + m) 0 < 255
  pub there : x ≡ first d (suc n) + more n m q
  pub end : get_or ends x 0 ≡ get_or nexts (8 * get_or ends (first d n + m) 0 + q) 0

-- the ends by the first k entries, and for each by which entry it came
pub record Filled (d : ℕ) (nexts : List ℕ) (k : ℕ) (ends from : List ℕ) : Type 0 where
  pub room : first d 7 ≤ length ends
  pub places : first d 7 ≤ length from
  pub none : get_or ends 0 0 ≡ 0
  pub within : (x : ℕ) → x < first d 7 → get_or ends x 0 < 255 → get_or ends x 0 ≤ 24
  pub least : (n m q c : ℕ) → Grows d n m q c → c < k → get_or ends (first d n + m) 0 < 255 →
      get_or ends (first d (suc n) + more n m q) 0 ≤ get_or nexts (8 * get_or ends (first d n + m) 0 + q) 0
  pub came : (x : ℕ) → 0 < x → x < first d 7 → get_or ends x 0 < 255 → Came d nexts k ends x (get_or from x 0)

-- the entries of the group of n by which the end at place x came, the last first
abbrev pub back_of : List ℕ → List ℕ → ℕ → ℕ → List Entry
back_of ends from zero x = []
back_of ends from (suc n) x =
    record { user = get_or ends x 0 - 1; role = get_or from x 0 % 8 } ∷ back_of ends from n (get_or from x 0 / 8)

-- the way back of n entries from place x lies in the tables, of which each has `room` places
abbrev pub Way : ℕ → List ℕ → List ℕ → ℕ → ℕ → Type 0
Way room ends from zero x = x < room
Way room ends from (suc n) x = (x < room) × (0 < get_or ends x 0) × Way room ends from n (get_or from x 0 / 8)

-- this way, in tables of at most 3,003 places
pub record WayIn (ends from : List ℕ) (n x : ℕ) : Type 0 where
  pub room : ℕ
  pub most : room ≤ 3003
  pub ends_room : room ≤ length ends
  pub from_room : room ≤ length from
  pub way : Way room ends from n x

-- the group found back from place x of the multisets of n roles: it stands, has those roles, and ends there
pub record Back (sets : List ℕ) (d n x : ℕ) (ends from : List ℕ) : Type 0 where
  pub stands : Stands sets d (back_of ends from n x)
  pub many : length (back_of ends from n x) ≡ n
  pub end : end_of (back_of ends from n x) ≡ get_or ends x 0
  pub place : first d n + rank_of (role_list (back_of ends from n x)) ≡ x
  pub way : Way (first d 7) ends from n x
