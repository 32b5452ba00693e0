-- A level's places, as the search is lent them, and what it looks for.
use Rattle.std.specs.Prelude.{ℕ, suc, ◌+◌, ◌*◌, ◌^◌, ◌<◌, ◌≤◌, Bool, ◌≡◌, List, length, get_or}
use Rattle.std.specs.Int.Bits.{bit_and, bit_or}
use Rattle.multisets.specs.Ranks.{first}
use Rattle.multisets.specs.Levels.{Summed}
use Rattle.multisets.specs.declared.Weighing.{Weighing}
use Rattle.multisets.specs.declared.ends.Users.{Users}
use Rattle.seek.specs.Search.{Tables, met_beside, met_at, Asked}
use Rattle.seek.specs.declared.condition.Condition.{Condition}
use Rattle.seek.specs.declared.Level.{Level}

-- the clauses that a sum and a set meet
abbrev pub met_together : {led : ℕ} → Condition led → ℕ → ℕ → ℕ
met_together c sum set = bit_and (get_or c.above.now sum 0) (get_or c.masks.now.sets (bit_or c.front set) 0)

-- the condition on sum and set with the roles in front
abbrev pub met_with : {led : ℕ} → Condition led → ℕ → ℕ → Bool
met_with c = met_beside c.front c.row c.above.now c.masks.now.sets

-- there are places up to `room`, and masks for the sums of those from `from` on
abbrev pub Roomy : {led : ℕ} → ℕ → ℕ → Level led → Type 0
Roomy from room l =
    Tables from room l.ends.now l.sums.now l.roles.now l.condition.above.now l.condition.masks.now.sets

-- place x is reached, and meets what is looked for
abbrev pub meets : {led : ℕ} → Level led → ℕ → Bool
meets l = met_at l.ends.now l.sums.now l.roles.now (met_with l.condition)

-- what a look through the level of n roles asks: the level is made, and its sums; there are masks for all of them, and
-- none for a set with a role without weight
pub record Looking (users : Users) (n : ℕ) (weighing : Weighing) (known : ℕ) (sums : List ℕ) (front : ℕ)
    (by_sum by_set : List ℕ) : Type 0 where
  pub few : n ≤ 6
  pub made : n ≤ known
  pub summed : Summed users.d weighing sums (first users.d (suc n))
  pub end_most : weighing.end ≤ users.d
  pub fits : weighing.placed + n * 40 < length by_sum
  pub asked : Asked weighing.w by_set weighing.end
  pub set_masks : length by_set ≡ 256
  pub low : front < 2 ^ weighing.end
