-- The weight of a role for a permission (004, algorithm 1, as document 01 corrects it), by the rules of a resolution
-- list; the empty list stands for none lent.
use Rattle.std.specs.Prelude.{ℕ, ◌+◌, ◌<◌, Bool, true, ◌&&◌, not, cond, List, ◌≡◌, ltb, eqb}
use Rattle.folds.specs.Below.{any_below, first_below, sum_below}
use Rattle.reader.specs.Tables.{hierarchy, contexts, policies, role_count, table_of, record_count}
use Rattle.reader.specs.Fields.{policy_role, policy_permission, policy_weight, policy_type, policy_context}
use Rattle.weights.specs.declared.Context.{Context}
use Rattle.weights.specs.Contexts.{context_holds}
use Rattle.weights.specs.Seniority.{senior_to}
use Rattle.resolution.specs.Resolution.{goes_before}

-- policy i of the table A is active: its context holds; in_force tells of each context number whether it does
abbrev pub active : (ℕ → Bool) → List ℕ → ℕ → Bool
active in_force a i = in_force (policy_context a i)

-- policy i is an active one of role r for permission p, and its type passes the filter f
abbrev pub candidate : (ℕ → Bool) → (ℕ → Bool) → List ℕ → ℕ → ℕ → ℕ → Bool
candidate in_force f a r p i =
    (eqb (policy_role a i) r && eqb (policy_permission a i) p) && (f (policy_type a i) && active in_force a i)

-- policy i is a candidate that no other candidate among the first n goes before; none goes before itself
unfoldable pub is_chosen : List ℕ → (ℕ → Bool) → (ℕ → Bool) → List ℕ → ℕ → ℕ → ℕ → ℕ → Bool
unfolding any_below goes_before
is_chosen rules in_force f a n r p i =
    candidate in_force f a r p i && not (any_below n (λ j. candidate in_force f a r p j && goes_before rules a j i))

-- exactly one number below n passes a test
pub record ExactlyOne (n : ℕ) (test : ℕ → Bool) : Type 0 where
  pub the : ℕ
  pub there : the < n
  pub passes : test the ≡ true
  pub alone : (i : ℕ) → i < n → test i ≡ true → i ≡ the

-- the policy that counts among the first n, the one so chosen; n where there is none. The law `one_chosen` says that
-- there is exactly one wherever there is a candidate, `chosen_first` that without rules it is the first in table order
unfoldable pub chosen : List ℕ → (ℕ → Bool) → (ℕ → Bool) → List ℕ → ℕ → ℕ → ℕ → ℕ
unfolding first_below is_chosen
chosen rules in_force f a n r p = first_below n (is_chosen rules in_force f a n r p)

-- its weight, or 0 where there is none
unfoldable pub chosen_weight : List ℕ → (ℕ → Bool) → (ℕ → Bool) → List ℕ → ℕ → ℕ → ℕ → ℕ
unfolding chosen
chosen_weight rules in_force f a n r p =
    cond (ltb (chosen rules in_force f a n r p) n) (policy_weight a (chosen rules in_force f a n r p)) 0

-- the filters: policies of any type, and those of type 1
abbrev pub any_type : ℕ → Bool
any_type t = true

abbrev pub type_one : ℕ → Bool
type_one t = eqb t 1

-- own(r, p) by the rules: the weight of the active policy of role r for permission p that no other active one of them
-- goes before, or 0; without rules that of the first in table order
unfoldable pub own : List ℕ → List ℕ → Context → ℕ → ℕ → ℕ
unfolding chosen_weight context_holds
own rules b at r p =
    chosen_weight rules (context_holds at (table_of b contexts)) any_type (table_of b policies)
    (record_count policies (table_of b policies)) r p

-- inh(r, p): the same over policies of type 1
unfoldable pub inh : List ℕ → List ℕ → Context → ℕ → ℕ → ℕ
unfolding chosen_weight context_holds
inh rules b at r p =
    chosen_weight rules (context_holds at (table_of b contexts)) type_one (table_of b policies)
    (record_count policies (table_of b policies)) r p

-- what role j hands on to role r: inh(j, p) where r is senior to j
abbrev pub share : List ℕ → List ℕ → Context → ℕ → ℕ → ℕ → ℕ
share rules b at p r j = cond (senior_to (table_of b hierarchy) r j) (inh rules b at j p) 0

-- the weight of r for p: own(r, p) plus inh(j, p) for each role j to which r is senior, each j once
unfoldable pub weight : List ℕ → List ℕ → Context → ℕ → ℕ → ℕ
unfolding sum_below senior_to own inh
weight rules b at r p = own rules b at r p + sum_below (role_count b) (share rules b at p r)
