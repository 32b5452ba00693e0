-- The masks of the sets of roles.
use Rattle.std.specs.Prelude.{ℕ, ◌+◌, ◌^◌, ◌<◌, Bool, ◌&&◌, ◌||◌, cond, ◌≡◌, List, ltb, length, get_or}
use Rattle.std.specs.Int.Bits.{bit_and, bit_or}
use Rattle.folds.specs.Below.{all_below}
use Rattle.folds.specs.Sets.{in_set}
use Rattle.decision.specs.Conditions.{role_num}

-- the number of different roles of each set below `end`
pub record RoleCounts (end : ℕ) (counts : List ℕ) : Type 0 where
  pub each : (v : ℕ) → v < end → get_or counts v 0 ≡ role_num v

-- of the clauses `own`, for each role those that a set without it can meet: all if it is in `start`
pub record Without (own : ℕ) (roles : List ℕ) (start : ℕ) (without : List ℕ) : Type 0 where
  pub size : length without ≡ 8
  pub each : (r : ℕ) → r < 8 → get_or without r 0 ≡ cond (in_set start r) own (get_or roles r 0)

-- a set without role r can meet clause b: r is in `start`, or the clause is one of those that don't ask for it
unfoldable pub spared : List ℕ → ℕ → ℕ → ℕ → Bool
unfolding in_set
spared roles start b r = in_set start r || in_set (get_or roles r 0) b

-- so can a set of roles below `end`, as far as role r goes
unfoldable pub spared_from : List ℕ → ℕ → ℕ → ℕ → ℕ → Bool
unfolding spared
spared_from roles start end b r = ltb r end || spared roles start b r

-- as far as role r goes, the set v has only roles with weight and can meet clause b
unfoldable pub role_fits : List ℕ → List ℕ → ℕ → ℕ → ℕ → ℕ → Bool
unfolding spared
role_fits roles w start v b r = cond (in_set v r) (ltb 0 (get_or w r 0)) (spared roles start b r)

-- of the clauses `own` those that a set of roles below `end` can meet as far as the roles below n go
pub record WithinReach (own : ℕ) (roles : List ℕ) (start end n reached : ℕ) : Type 0 where
  pub members : (b : ℕ) → in_set reached b ≡ (in_set own b && all_below n (spared_from roles start end b))

-- the masks of the sets below `half`, without the next role and with it
pub record Doubled (half without with : ℕ) (was masks : List ℕ) : Type 0 where
  pub size : length masks ≡ length was
  pub lower : (v : ℕ) → v < half → get_or masks v 0 ≡ bit_and (get_or was v 0) without
  pub upper : (v : ℕ) → v < half → get_or masks (half + v) 0 ≡ bit_and (get_or was v 0) with

-- the masks of the sets below 2 ^ end by the roles that the clauses ask for
pub record SetsMarked (own : ℕ) (roles w : List ℕ) (start end : ℕ) (sets : List ℕ) : Type 0 where
  pub members : (v b : ℕ) → v < 2 ^ end
      → in_set (get_or sets v 0) b ≡ (in_set own b && all_below 8 (role_fits roles w start v b))

-- the masks of the sets below `end` with the clauses left that the number of roles meets
pub record NumbersFit (end : ℕ) (numbers : List ℕ) (start : ℕ) (was sets : List ℕ) : Type 0 where
  pub size : length sets ≡ length was
  pub each : (v : ℕ) → v < end →
      get_or sets v 0 ≡ bit_and (get_or was v 0) (get_or numbers (role_num (bit_or start v)) 0)

-- the masks of the sets of roles below `end`
pub record SetsFor (own : ℕ) (numbers roles w : List ℕ) (start end : ℕ) (sets : List ℕ) : Type 0 where
  pub members : (v b : ℕ) → v < 2 ^ end → in_set (get_or sets v 0) b
      ≡ ((in_set own b && all_below 8 (role_fits roles w start v b))
      && in_set (get_or numbers (role_num (bit_or start v)) 0) b)
