-- The decision: the first of refusals 1 to 15, 24, 16 and 17, and of 22 where a list is lent, that applies, or 0.
use Rattle.std.specs.Prelude.{ℕ, Bool, not, cond, List, [], ltb, eqb}
use Rattle.reader.specs.Tables.{users, clauses, role_count, user_count, permission_count, table_of}
use Rattle.reader.specs.Days.{out_of_days}
use Rattle.reader.specs.Rules.{refusal_of}
use Rattle.weights.specs.declared.Context.{Context}
use Rattle.weights.specs.Contexts.{out_of_range}
use Rattle.resolution.specs.Resolution.{lent}
use Rattle.weights.specs.Weights.{weight}
use Rattle.weights.specs.Acting.{may_act}
use Rattle.decision.specs.Conditions.{permission_holds}
use Rattle.decision.specs.Groups.{members_refusal, present, weighed_refusal, group_refusal}

-- user u may stand in a group for permission p in role r, in this context, as far as 15 asks: u may act in r
abbrev pub eligible : List ℕ → Context → ℕ → ℕ → ℕ → Bool
eligible b at p u r = may_act b u r

-- the context's date is before the first or after the last day of user u of the base
abbrev pub out_of_date : List ℕ → Context → ℕ → Bool
out_of_date b at u = out_of_days (table_of b users) at.date u

-- refusals 12 to 15 by the base's users and roles and by who may act
abbrev pub members_of : List ℕ → List ℕ → ℕ
members_of b g = members_refusal (user_count b) (role_count b) (may_act b) g

-- refusals 12 to 15, and 24 by the users' days, before what is left
abbrev pub present_of : List ℕ → Context → List ℕ → ℕ → ℕ
present_of b at g left = present (user_count b) (role_count b) (may_act b) (out_of_date b at) g left

-- refusals 16 and 17 by the roles' weights and the permission's condition
abbrev pub weighed_of : List ℕ → List ℕ → Context → ℕ → List ℕ → ℕ
weighed_of rules b at p g = weighed_refusal (λ r. weight rules b at r p) (permission_holds (table_of b clauses) p) g

-- refusals 12 to 15, 24, 16 and 17, with what the base, the context and the permission hand to the group, by the rules
unfoldable pub group_decision : List ℕ → List ℕ → Context → ℕ → List ℕ → ℕ
unfolding group_refusal
group_decision rules b at p g =
    group_refusal (user_count b) (role_count b) (eligible b at p) (out_of_date b at) (λ r. weight rules b at r p)
    (permission_holds (table_of b clauses) p) g

-- 10 of the permission and 11 of the context, before what is left
abbrev pub asking : List ℕ → Context → ℕ → ℕ → ℕ
asking b at p left = cond (not (ltb p (permission_count b))) 10 (cond (out_of_range at) 11 left)

-- the head: 1 to 9 of the base, 10 and 11, before what is left
abbrev pub headed : List ℕ → Context → ℕ → ℕ → ℕ
headed b at p left = cond (not (eqb (refusal_of b) 0)) (refusal_of b) (asking b at p left)

-- the decision by the rules of a list: the head, then what the group gets; it knows no 22
unfoldable pub decision_by : List ℕ → List ℕ → Context → ℕ → List ℕ → ℕ
decision_by rules b at p g = headed b at p (group_decision rules b at p g)

-- the decision without a list
abbrev pub decision_of : List ℕ → Context → ℕ → List ℕ → ℕ
decision_of b at p g = decision_by [] b at p g

-- the decision with a list lent: 1 to 9 of the base, 22 of the list, then the decision by its rules
unfoldable pub decision_lent : List ℕ → List ℕ → Context → ℕ → List ℕ → ℕ
decision_lent list b at p g = lent list b (decision_by list b at p g)
