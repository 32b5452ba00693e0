-- How much one weight can shift (request Three): what a changed weight of one policy can do to the sums of weights.
use Rattle.std.specs.Prelude.{ℕ, ◌+◌, ◌-◌, ◌*◌, ◌<◌, ◌≤◌, Bool, true, false, ◌||◌, not, cond, ◌≡◌, List, set, ltb, eqb}
use Rattle.folds.specs.Below.{count_below}
use Rattle.reader.specs.Tables.{hierarchy, policies, table_offset, table_of, policy_count}
use Rattle.reader.specs.Fields.{weight_place, policy_role, policy_weight}
use Rattle.reader.specs.Rules.{outside, refusal_of}
use Rattle.reader.specs.declared.Answer.{Answer}
use Rattle.reader.specs.Answers.{answered}
use Rattle.weights.specs.declared.Context.{Context}
use Rattle.weights.specs.Seniority.{senior_to}
use Rattle.weights.specs.Weights.{weight}
use Rattle.decision.specs.Groups.{entry_count, entry_role, sum_of}
use Rattle.decision.specs.Decision.{members_of}

-- the difference of two numbers: the larger less the smaller; subtraction ends at 0, so one of the two terms is 0
abbrev pub distance : ℕ → ℕ → ℕ
distance x y = (x - y) + (y - x)

-- the weight of policy i
abbrev pub weight_in : List ℕ → ℕ → ℕ
weight_in b i = policy_weight (table_of b policies) i

-- the base with w in the one byte of policy i's weight
abbrev pub with_weight : List ℕ → ℕ → ℕ → List ℕ
with_weight b i w = set b (table_offset b policies + weight_place i) w

-- two accepted bases that differ only in the weight of policy i: c is b with that one byte replaced
pub record OneWeight (b c : List ℕ) (i : ℕ) : Type 0 where
  pub first : refusal_of b ≡ 0
  pub second : refusal_of c ≡ 0
  pub there : i < policy_count b
  pub replaced : (w : ℕ) × (c ≡ with_weight b i w)

-- the sum of the roles' weights of a group for permission p, attribute 1, by the rules of a list
abbrev pub sum_by : List ℕ → List ℕ → Context → ℕ → List ℕ → ℕ
sum_by rules b at p g = sum_of (λ r. weight rules b at r p) g

-- role r is policy i's role or senior to it
unfoldable pub role_or_senior : List ℕ → ℕ → ℕ → Bool
unfolding senior_to
role_or_senior b i r =
    eqb r (policy_role (table_of b policies) i)
    || senior_to (table_of b hierarchy) r (policy_role (table_of b policies) i)

-- the number of entries whose role is that policy's role or senior to it
unfoldable pub touched : List ℕ → ℕ → List ℕ → ℕ
unfolding count_below role_or_senior
touched b i g = count_below (entry_count g) (λ k. role_or_senior b i (entry_role g k))

-- what the theorem says of bases b and c that differ only in the weight of policy i, by the rules of every list and
-- without one, for every context and permission number: the weight of a role that is the policy's or senior to it
-- shifts by at most the difference of the two weights, that of any other role stays, and of any list of numbers as a
-- group the sums of weights differ by at most the difference times the number of entries in such roles
pub record Shifts (b c : List ℕ) (i : ℕ) : Type 0 where
  pub role_shifts : (rules : List ℕ) (at : Context) (p r : ℕ) → role_or_senior b i r ≡ true →
      distance (weight rules b at r p) (weight rules c at r p) ≤ distance (weight_in b i) (weight_in c i)
  pub role_stays : (rules : List ℕ) (at : Context) (p r : ℕ) → role_or_senior b i r ≡ false →
      weight rules b at r p ≡ weight rules c at r p
  pub sum_shifts : (rules : List ℕ) (at : Context) (p : ℕ) (g : List ℕ) →
      distance (sum_by rules b at p g) (sum_by rules c at p g)
      ≤ distance (weight_in b i) (weight_in c i) * touched b i g

-- the bound where policy i gets the weight w: the difference of the two weights times that number
unfoldable pub bound_of : List ℕ → ℕ → ℕ → List ℕ → ℕ
unfolding touched
bound_of b i w g = distance (weight_in b i) w * touched b i g

-- refusal 21, with n policies: the policy number isn't in the table or the new weight isn't 1 to 5
unfoldable pub change_refused : ℕ → ℕ → ℕ → Bool
change_refused n i w = not (ltb i n) || outside 1 5 w

-- the refusals of the call: 1 to 9 of the base, 12 to 15 as the decision gives them, then 21. No date
-- is known, so no 24
unfoldable pub bound_refusal : List ℕ → ℕ → ℕ → List ℕ → ℕ
bound_refusal b i w g =
    cond (not (eqb (refusal_of b) 0)) (refusal_of b)
    (cond (not (eqb (members_of b g) 0)) (members_of b g)
    (cond (change_refused (policy_count b) i w) 21 0))

-- the answer: a refusal carries 0
abbrev pub bound_answer : List ℕ → ℕ → ℕ → List ℕ → Answer
bound_answer b i w g = answered (bound_refusal b i w g) (bound_of b i w g)

-- what an answer of 0 says: the base with that weight is accepted, and by the rules of every list and without one, for
-- every permission and context, the group's two sums differ by at most the count
pub record Bounded (b : List ℕ) (i w : ℕ) (g : List ℕ) : Type 0 where
  pub accepted : refusal_of (with_weight b i w) ≡ 0
  pub sums : (rules : List ℕ) (at : Context) (p : ℕ) →
      distance (sum_by rules b at p g) (sum_by rules (with_weight b i w) at p g) ≤ (bound_answer b i w g).count
