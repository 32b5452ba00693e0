-- The search for a permission: from entries placed before, the fewest more that meet its condition. Working notions.
use Rattle.std.specs.Prelude.{ℕ, ◌+◌, ◌-◌, ◌*◌, ◌^◌, ◌<◌, ◌≤◌, Bool, ◌&&◌, ◌≡◌, List, ltb, get_or, Option, MatchOption}
use Rattle.std.specs.Int.Bits.{bit_or}
use Rattle.decision.specs.Conditions.{permission_holds}
use Rattle.masks.specs.Clauses.{Checked}
use Rattle.masks.specs.Sets.{RoleCounts}
use Rattle.multisets.specs.Values.{Light}
use Rattle.masks.specs.declared.Placed.{Placed}
use Rattle.masks.specs.declared.Weighed.{Weighed}

-- nobody placed
abbrev pub nobody : Placed
nobody = record { count = 0; sum = 0; roles = 0 }

-- the condition holds of the entries placed and n more, where all have the sum, and those more act in the set; no entry
-- at all is no group
abbrev pub holds_with : List ℕ → ℕ → Placed → ℕ → ℕ → ℕ → Bool
holds_with k p start n sum set =
    ltb 0 (start.count + n) && permission_holds k p (start.count + n) sum (bit_or start.roles set)

-- what the roles below n weigh: of those that have weight none weighs less than the least weight or more than the
-- largest, and all come before the end, which is one past one of them or 0
pub record WeighedBelow (w : List ℕ) (n : ℕ) (s : Weighed) : Type 0 where
  pub light : (r : ℕ) → r < n → 0 < get_or w r 0 → s.light ≤ get_or w r 0
  pub heavy : (r : ℕ) → r < n → get_or w r 0 ≤ s.heavy
  pub before : (r : ℕ) → r < n → 0 < get_or w r 0 → r < s.end
  pub within : s.end ≤ n
  pub last : 0 < s.end → 0 < get_or w (s.end - 1) 0
  pub some : 0 < s.end → 0 < s.light
  pub ordered : s.light ≤ s.heavy
  pub most : s.heavy ≤ 40

-- the same where some role below n has weight, or that none has
abbrev pub WeighedSome : List ℕ → ℕ → Option Weighed → Type 0
WeighedSome w n s = MatchOption s ((r : ℕ) → r < n → get_or w r 0 ≡ 0) (λ s. WeighedBelow w n s × (0 < s.end))

-- the last row that isn't empty
pub record IsLast (rows : List ℕ) (last : ℕ) : Type 0 where
  pub within : last ≤ 6
  pub past : (n : ℕ) → last < n → n < 7 → get_or rows n 0 ≡ 0
  pub some : get_or rows last 0 ≡ 0 → ⊥

-- or that there is none
abbrev pub LastRow : List ℕ → Option ℕ → Type 0
LastRow rows last = MatchOption last ((n : ℕ) → n < 7 → get_or rows n 0 ≡ 0) (IsLast rows)

-- what the search is handed: a table K that passed the check, weights of roles below d, and what is placed before
pub record Seeking (k w : List ℕ) (start : Placed) (d : ℕ) (counts : List ℕ) : Type 0 where
  pub checked : Checked k
  pub light : Light w
  pub most : d ≤ 8
  pub roles : (r : ℕ) → r < 8 → 0 < get_or w r 0 → r < d
  pub counted : RoleCounts (2 ^ d) counts
  pub few : start.count ≤ 6
  pub sum : start.sum ≤ start.count * 40
  pub acted : start.roles < 2 ^ d
