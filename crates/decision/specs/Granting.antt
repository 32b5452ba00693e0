-- A granted group, in the words of the law of granting.
use Rattle.std.specs.Prelude.{ℕ, ◌*◌, ◌<◌, ◌≤◌, Bool, true, false, ◌≡◌, List, length}
use Rattle.reader.specs.Tables.{clauses, role_count, table_of, user_count}
use Rattle.weights.specs.declared.Context.{Context}
use Rattle.weights.specs.Weights.{weight}
use Rattle.decision.specs.Conditions.{permission_holds}
use Rattle.decision.specs.Groups.{entry_count, entry_user, entry_role, sum_of, roles_of}
use Rattle.decision.specs.Decision.{eligible, out_of_date}

-- 1 to 6 whole entries of different users, users and roles that are there, each user eligible in the role and not out
-- of date, each role's weight above 0, and the condition holds of number, sum and set
pub record Granted (U R : ℕ) (may : ℕ → ℕ → Bool) (out : ℕ → Bool) (weigh : ℕ → ℕ) (condition : ℕ → ℕ → ℕ → Bool)
    (g : List ℕ) : Type 0 where
  pub whole : length g ≡ 2 * entry_count g
  pub some : 1 ≤ entry_count g
  pub few : entry_count g ≤ 6
  pub user : (i : ℕ) → i < entry_count g → entry_user g i < U
  pub role : (i : ℕ) → i < entry_count g → entry_role g i < R
  pub different : (i j : ℕ) → i < j → j < entry_count g → entry_user g i ≡ entry_user g j → ⊥
  pub acting : (i : ℕ) → i < entry_count g → may (entry_user g i) (entry_role g i) ≡ true
  pub days : (i : ℕ) → i < entry_count g → out (entry_user g i) ≡ false
  pub heavy : (i : ℕ) → i < entry_count g → 0 < weigh (entry_role g i)
  pub holds : condition (entry_count g) (sum_of weigh g) (roles_of g) ≡ true

-- the base grants the group the permission in the context, by the rules
abbrev pub GrantedBy : List ℕ → List ℕ → Context → ℕ → List ℕ → Type 0
GrantedBy rules b at p g =
    Granted (user_count b) (role_count b) (eligible b at p) (out_of_date b at) (λ r. weight rules b at r p)
    (permission_holds (table_of b clauses) p) g
