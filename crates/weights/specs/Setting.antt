-- What the functions of this layer hand on: the setting of a base, a context and a list of rules, the weights of all
-- roles, and who may act in which.
use Rattle.std.specs.Prelude.{ℕ, ◌+◌, ◌*◌, ◌≤◌, ◌<◌, Bool, true, cond, ◌&&◌, ◌||◌, ◌≡◌, List, length, get_or, take, eqb}
use Rattle.folds.specs.Below.{sum_below}
use Rattle.folds.specs.Sets.{in_set, set_below}
use Rattle.reader.specs.Tables.{hierarchy, contexts, table_of}
use Rattle.reader.specs.Fields.{senior, junior}
use Rattle.weights.specs.declared.Context.{Context}
use Rattle.weights.specs.declared.Fixed.{Fixed}
use Rattle.weights.specs.Contexts.{context_holds}
use Rattle.weights.specs.Seniority.{senior_to}
use Rattle.weights.specs.Acting.{may_act}
use Rattle.resolution.specs.Resolution.{goes_before}
use Rattle.weights.specs.Weights.{chosen_weight, any_type, type_one, own, inh, weight}

-- the set s has the context numbers 0 to 15 that hold by the table C
pub record Holding (at : Context) (c : List ℕ) (s : ℕ) : Type 0 where
  pub number : (n : ℕ) → n ≤ 15 → in_set s n ≡ context_holds at c n

-- the bytes are the sets of each role's juniors by the table H, roles 0 to 7
pub record Juniors (h bytes : List ℕ) : Type 0 where
  pub role : (s j : ℕ) → s < 8 → in_set (get_or bytes s 0) j ≡ senior_to h s j

-- for each of 24 users the set of the roles that the user may act in; empty for users that aren't there
pub record ActingSets (b sets : List ℕ) : Type 0 where
  pub size : length sets ≡ 24
  pub user : (u : ℕ) → u < 24 → get_or sets u 0 ≡ set_below 8 (may_act b u)

-- the rules that a setting carries, in their order; none where no list was lent
abbrev pub rules_of : Fixed → List ℕ
rules_of s = take s.rules.listed s.rules.bytes

-- s is what the base b fixes in the context that s carries
pub record FixedBy (b : List ℕ) (s : Fixed) : Type 0 where
  pub holding : Holding s.at (table_of b contexts) s.contexts
  pub juniors : Juniors (table_of b hierarchy) s.juniors

-- a context number holds by the set s of those that do, or is 255
abbrev pub in_force_by : ℕ → ℕ → Bool
in_force_by s n = cond (eqb n 255) true (in_set s n)

-- policy i is taken up at place k: none is kept there, or i goes before the one that is
abbrev pub taken_up : List ℕ → List ℕ → ℕ → List ℕ → List ℕ → ℕ → Bool
taken_up rules a i kept weights k = eqb (get_or weights k 0) 0 || goes_before rules a i (get_or kept k 0)

-- the weight kept, or the given one where none is
abbrev pub first_of : ℕ → ℕ → ℕ
first_of kept given = cond (eqb kept 0) given kept

-- the 128 places of v hold 0
pub record Vacant (v : List ℕ) : Type 0 where
  pub size : length v ≡ 128
  pub zero : (i : ℕ) → i < 128 → get_or v i 0 ≡ 0

-- v has f r p, of role r and permission p, at 8 times p and r, for 8 roles and 16 permissions
pub record Placed (f : ℕ → ℕ → ℕ) (v : List ℕ) : Type 0 where
  pub place : (r p : ℕ) → r < 8 → p < 16 → get_or v (8 * p + r) 0 ≡ f r p

-- the weights of the policies that count among the first n of the table A by the rules, where s is the set of the
-- context numbers that hold
pub record AreChosen (rules : List ℕ) (s : ℕ) (a : List ℕ) (n : ℕ) (owns inhs : List ℕ) : Type 0 where
  pub any : Placed (chosen_weight rules (in_force_by s) any_type a n) owns
  pub one : Placed (chosen_weight rules (in_force_by s) type_one a n) inhs

-- no weight is above 5
abbrev pub Light : List ℕ → Type 0
Light v = (i : ℕ) → i < 128 → get_or v i 0 ≤ 5

-- the lists have own(r, p) and inh(r, p) of the base b by the rules in a context
pub record ChosenBy (rules b : List ℕ) (at : Context) (owns inhs : List ℕ) : Type 0 where
  pub own_at : Placed (own rules b at) owns
  pub inh_at : Placed (inh rules b at) inhs
  pub own_light : Light owns
  pub inh_light : Light inhs

-- w has the weight of each role for permission p
pub record AreWeights (rules b : List ℕ) (at : Context) (p : ℕ) (w : List ℕ) : Type 0 where
  pub role : (r : ℕ) → r < 8 → get_or w r 0 ≡ weight rules b at r p

-- what a junior j that hands on x gives to a role with the juniors s
abbrev pub given : ℕ → ℕ → ℕ → ℕ
given s j x = cond (in_set s j) x 0

-- w is the weights `was` where junior j has handed on x to the roles below n
pub record HandedOn (juniors : List ℕ) (j x n : ℕ) (was w : List ℕ) : Type 0 where
  pub size : length w ≡ 8
  pub done : (r : ℕ) → r < n → get_or w r 0 ≡ get_or was r 0 + given (get_or juniors r 0) j x
  pub rest : (r : ℕ) → n ≤ r → get_or w r 0 ≡ get_or was r 0

-- w has each role's own weight for permission p and what the juniors below n hand on
pub record Summed (owns inhs juniors : List ℕ) (p n : ℕ) (w : List ℕ) : Type 0 where
  pub size : length w ≡ 8
  pub role : (r : ℕ) → r < 8 →
      get_or w r 0
      ≡ get_or owns (8 * p + r) 0 + sum_below n (λ j. given (get_or juniors r 0) j (get_or inhs (8 * p + j) 0))

-- j is a junior of s by one record, or of a junior whose juniors are known
abbrev pub next_junior : List ℕ → List ℕ → ℕ → ℕ → ℕ → Bool
next_junior h known s j i = eqb (senior h i) s && (eqb (junior h i) j || in_set (get_or known (junior h i) 0) j)
