-- The decision by any reading of who may act in a role, to say what request Two changed: before it a user had to hold
-- the role.
use Rattle.std.specs.Prelude.{ℕ, Bool, false, ◌≡◌, List, [], ◌∷◌, eqb}
use Rattle.reader.specs.Tables.{clauses, role_count, user_count, table_of}
use Rattle.reader.specs.Codes.{holds}
use Rattle.reader.specs.Rules.{refusal_of}
use Rattle.weights.specs.declared.Context.{Context}
use Rattle.weights.specs.Contexts.{out_of_range}
use Rattle.weights.specs.Weights.{weight}
use Rattle.decision.specs.Conditions.{permission_holds}
use Rattle.decision.specs.Groups.{group_refusal}
use Rattle.decision.specs.Decision.{out_of_date, headed}
use Rattle.report.specs.Smallest.{smallest, smallest_of}

-- the decision where `may` says who is eligible in which role: the head, and the chain 12 to 15, 24, 16 and 17, are the
-- decision's own
abbrev pub decision_where : (ℕ → ℕ → Bool) → List ℕ → Context → ℕ → List ℕ → ℕ
decision_where may b at p g =
    headed b at p
    (group_refusal (user_count b) (role_count b) may (out_of_date b at) (λ r. weight [] b at r p)
    (permission_holds (table_of b clauses) p) g)

-- the decision by holding alone
abbrev pub decision_by_holding : List ℕ → Context → ℕ → List ℕ → ℕ
decision_by_holding b at p g = decision_where (holds b) b at p g

-- the smallest number of approvers by holding alone
unfoldable pub smallest_by_holding : List ℕ → Context → ℕ → ℕ
smallest_by_holding b at p = smallest (λ g. eqb (decision_by_holding b at p g) 0)

-- a shop with two roles, 0 manager over 1 buyer, whose only user is a head buyer who holds the manager role alone; its
-- one permission asks for one approver, and only the buyer has weight for it
unfoldable pub head_buyer : List ℕ
head_buyer =
    -- H, from 0: 0 over 1
    0 ∷ 1 ∷
    -- U, from 2: 3, with days 0 and 65535
    3 ∷ 0 ∷ 0 ∷ 0 ∷ 0 ∷ 0 ∷ 255 ∷ 255 ∷
    -- P, from 10: one permission (1, 1)
    1 ∷ 1 ∷
    -- K, from 12: attribute 0 >= 1
    0 ∷ 1 ∷ 0 ∷ 2 ∷ 1 ∷ 0 ∷ 0 ∷ 0 ∷ 0 ∷ 0 ∷ 0 ∷ 0 ∷ 0 ∷ 0 ∷ 0 ∷ 0 ∷
    -- A, from 28: buyer weight 1, type 0, no context
    1 ∷ 0 ∷ 1 ∷ 0 ∷ 255 ∷ 0 ∷ 0 ∷ 0 ∷
    -- the trailer, from 36: offset and record count of H, U, P, K, C, A, X
    0 ∷ 0 ∷ 1 ∷ 0 ∷ 2 ∷ 0 ∷ 1 ∷ 0 ∷ 10 ∷ 0 ∷ 1 ∷ 0 ∷ 12 ∷ 0 ∷ 1 ∷ 0 ∷ 28 ∷ 0 ∷ 0 ∷ 0 ∷ 28 ∷ 0 ∷ 1 ∷ 0 ∷ 36 ∷ 0 ∷ 0 ∷ 0 ∷
    -- R, three zero bytes, LCAQ
    2 ∷ 0 ∷ 0 ∷ 0 ∷ 76 ∷ 67 ∷ 65 ∷ 81 ∷ []

-- a 0 may become a number: by holding alone nobody releases the head buyer's field, by acting one approver does
pub record BecomesOne : Type 0 where
  pub passes : refusal_of head_buyer ≡ 0
  pub by_holding : (at : Context) → smallest_by_holding head_buyer at 0 ≡ 0
  pub by_acting : (at : Context) → out_of_range at ≡ false → smallest_of head_buyer at 0 ≡ 1
