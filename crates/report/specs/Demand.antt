-- Demand 3, in the customer's words: of the answer, and of the bytes as they stand in the buffer.
use Rattle.std.specs.Prelude.{ℕ, ◌+◌, ◌*◌, ◌<◌, ◌≤◌, Bool, true, false, ◌≡◌, ◌↔◌, List, length, get_or, take, drop, eqb}
use Rattle.folds.specs.Below.{any_below, count_below}
use Rattle.reader.specs.declared.Answer.{Answer}
use Rattle.reader.specs.Tables.{permission_count}
use Rattle.reader.specs.Rules.{refusal_of}
use Rattle.weights.specs.declared.Context.{Context}
use Rattle.weights.specs.Contexts.{out_of_range}
use Rattle.resolution.specs.Resolution.{list_refused}
use Rattle.decision.specs.Decision.{decision_of, decision_lent}
use Rattle.decision.specs.Groups.{entry_count, entry_user}
use Rattle.report.specs.Smallest.{Deciding}

-- the number of approvers that the buffer carries for permission p
abbrev pub number_for : List ℕ → ℕ → ℕ
number_for out p = get_or out (13 * p) 0

-- the bytes of the group that it shows
abbrev pub group_for : List ℕ → ℕ → List ℕ
group_for out p = take (2 * number_for out p) (drop (13 * p + 1) out)

-- the number of users of a group: of how many numbers below 256 an entry has that user; those of a granted group are
-- below 24
unfoldable pub user_num : List ℕ → ℕ
user_num g = count_below 256 (λ u. any_below (entry_count g) (λ i. eqb (entry_user g i) u))

-- which permissions are granted which groups
abbrev pub Granting : Type 1
Granting = ℕ → List ℕ → Type 0

-- those that a decision grants
abbrev pub granted_by : Deciding → Granting
granted_by decision p g = decision p g ≡ 0

-- some group is granted permission p
abbrev pub Grantable : Granting → ℕ → Type 0
Grantable grants p = (t : List ℕ) × grants p t

-- demand 3 of a report of what is granted of P permissions, of the answer r and the buffer out: groups are all lists of
-- numbers whatever
pub record Demand3 (grants : Granting) (P : ℕ) (out : List ℕ) (r : Answer) : Type 0 where
  pub done : r.refusal ≡ 0
  -- the buffer carries a number and a group for each permission
  pub carries : 13 * P ≤ length out
  -- the number is zero exactly when no group is granted
  pub zero : (p : ℕ) → p < P → (number_for out p ≡ 0) ↔ (Grantable grants p → ⊥)
  -- above zero, the group shown has that many users and is granted
  pub users : (p : ℕ) → p < P → 0 < number_for out p → user_num (group_for out p) ≡ number_for out p
  pub granted : (p : ℕ) → p < P → 0 < number_for out p → grants p (group_for out p)
  -- every group that is granted has at least as many
  pub least : (p : ℕ) → p < P → (t : List ℕ) → grants p t → number_for out p ≤ user_num t
  -- the count is the number of permissions for which some group is granted
  pub grantable : ℕ → Bool
  pub grantable_is : (p : ℕ) → p < P → (grantable p ≡ true) ↔ Grantable grants p
  pub count : r.count ≡ count_below P grantable

-- what is demanded of the call without a list: demand 3 of `decide`'s answers, where none of refusals 1 to 9, 11 and 19
-- applies
abbrev pub Demanded : List ℕ → Context → List ℕ → List ℕ → Answer → Type 0
Demanded b at out after r =
    refusal_of b ≡ 0 → out_of_range at ≡ false → 13 * permission_count b ≤ length out →
    Demand3 (granted_by (decision_of b at)) (permission_count b) after r

-- and of the call with a list: demand 3 of the answers of `decide_by` to the same list, where 22 doesn't apply either
abbrev pub DemandedLent : List ℕ → List ℕ → Context → List ℕ → List ℕ → Answer → Type 0
DemandedLent list b at out after r =
    refusal_of b ≡ 0 → list_refused list ≡ false → out_of_range at ≡ false → 13 * permission_count b ≤ length out →
    Demand3 (granted_by (decision_lent list b at)) (permission_count b) after r
