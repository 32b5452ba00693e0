-- The masks of a permission, and what they tell: whether its condition holds.
use Rattle.std.specs.Prelude.{ℕ, ◌+◌, ◌-◌, ◌*◌, ◌^◌, ◌≤◌, ◌<◌, true, ◌≡◌, List, length, get_or}
use Rattle.std.specs.Int.Bits.{bit_or}
use Rattle.folds.specs.Sets.{in_set}
use Rattle.reader.specs.Tables.{clauses, record_count}
use Rattle.decision.specs.Conditions.{permission_holds}
use Rattle.seek.specs.Search.{met_by}
use Rattle.masks.specs.declared.Placed.{Placed}
use Rattle.masks.specs.declared.Weighed.{Weighed}
use Rattle.masks.specs.Clauses.{clauses_of, Checked}
use Rattle.masks.specs.Sets.{RoleCounts}

-- what the masks are made of: clauses `own` of a table K, entries placed, and the weights. The roles are those below
-- `roles`.
pub record Ready (k : List ℕ) (own : ℕ) (weighed : Weighed) (placed : Placed) (counts : List ℕ) : Type 0 where
  pub table : Checked k
  pub own_lt : own < 2 ^ record_count clauses k
  pub light_le : weighed.light ≤ weighed.heavy
  pub placed_le : placed.count ≤ 6
  pub top_le : placed.sum + (6 - placed.count) * weighed.heavy ≤ 240
  pub roles : ℕ
  pub roles_le : roles ≤ 8
  pub end_le : weighed.end ≤ roles
  pub placed_roles : placed.roles < 2 ^ roles
  pub counted : RoleCounts (2 ^ roles) counts

-- the masks of the sums and the sets of roles, and for each number n of entries more a row of clauses
pub record Masks (k : List ℕ) (own : ℕ) (w : List ℕ) (weighed : Weighed) (placed : Placed)
    (sums sets rows : List ℕ) : Type 0 where
  pub sums_size : length sums ≡ 256
  pub sets_size : length sets ≡ 256
  -- n entries more with the sum s in all and the set v of roles, each of which has weight, meet the condition of the
  -- permission whose clauses these are exactly where a clause is in all three
  pub tells : (p : ℕ) → own ≡ clauses_of k p → (n s v : ℕ) → 1 ≤ placed.count + n → placed.count + n ≤ 6
      → placed.sum + n * weighed.light ≤ s → s ≤ placed.sum + n * weighed.heavy → v < 2 ^ weighed.end
      → ((r : ℕ) → r < 8 → in_set v r ≡ true → 0 < get_or w r 0)
      → met_by (get_or rows n 0) sums sets s v ≡ permission_holds k p (placed.count + n) s (bit_or placed.roles v)
  -- no clause for a set with a role that has no weight
  pub kept : (v r : ℕ) → v < 2 ^ weighed.end → r < 8 → in_set v r ≡ true → get_or w r 0 ≡ 0 → get_or sets v 0 ≡ 0
  -- nor for no entry or more than six
  pub none : (n : ℕ) → placed.count + n ≡ 0 → get_or rows n 0 ≡ 0
  pub past : (n : ℕ) → 6 < placed.count + n → get_or rows n 0 ≡ 0
