-- Which policy overrides which (request Four): a table A on which all fifteen resolution lists are worked out.
use Rattle.std.specs.Prelude.{ℕ, Bool, true, false, ◌≡◌, List, [], ◌∷◌, eqb}
use Rattle.reader.specs.Tables.{policies, record_count}
use Rattle.resolution.specs.Resolution.{goes_before, list_refused}
use Rattle.weights.specs.Weights.{chosen, any_type, type_one}

-- the role and the permission asked for, and which context numbers hold: only 255
abbrev pub role : ℕ
role = 1

abbrev pub permission : ℕ
permission = 2

abbrev pub in_force : ℕ → Bool
in_force n = eqb n 255

-- role; permission; weight; type; context number; rank; issue day, low byte and high byte
unfoldable pub table : List ℕ
table =
    -- 0 to 2 would go before all others by every rule and in table order, but 0 isn't active, 1 is another role's and 2
    -- for another permission
    1 ∷ 2 ∷ 1 ∷ 1 ∷ 1 ∷ 255 ∷ 255 ∷ 255 ∷
    0 ∷ 2 ∷ 1 ∷ 1 ∷ 255 ∷ 255 ∷ 255 ∷ 255 ∷
    1 ∷ 3 ∷ 1 ∷ 1 ∷ 255 ∷ 255 ∷ 255 ∷ 255 ∷
    -- 3 is the first of those left in table order, and by no rule before another
    1 ∷ 2 ∷ 5 ∷ 0 ∷ 255 ∷ 0 ∷ 0 ∷ 0 ∷
    -- 4 to 7 are the latest, day 256: of them 4 and 5 have the largest rank, and 5 is the lighter; 6 and 7 are the
    -- lightest, and 7 has the larger rank
    1 ∷ 2 ∷ 5 ∷ 0 ∷ 255 ∷ 8 ∷ 0 ∷ 1 ∷
    1 ∷ 2 ∷ 4 ∷ 1 ∷ 255 ∷ 8 ∷ 0 ∷ 1 ∷
    1 ∷ 2 ∷ 3 ∷ 1 ∷ 255 ∷ 6 ∷ 0 ∷ 1 ∷
    1 ∷ 2 ∷ 3 ∷ 0 ∷ 255 ∷ 7 ∷ 0 ∷ 1 ∷
    -- 8 and 9 have the largest rank: 8 is the lighter, 9 the later, day 255 against 254
    1 ∷ 2 ∷ 4 ∷ 0 ∷ 255 ∷ 9 ∷ 254 ∷ 0 ∷
    1 ∷ 2 ∷ 5 ∷ 1 ∷ 255 ∷ 9 ∷ 255 ∷ 0 ∷
    -- 10 to 13 are the lightest: of them 10 is the latest; 11 to 13 have the larger rank, and 12 and 13, which differ
    -- in type alone, are later than 11
    1 ∷ 2 ∷ 2 ∷ 1 ∷ 255 ∷ 0 ∷ 255 ∷ 0 ∷
    1 ∷ 2 ∷ 2 ∷ 0 ∷ 255 ∷ 1 ∷ 253 ∷ 0 ∷
    1 ∷ 2 ∷ 2 ∷ 0 ∷ 255 ∷ 1 ∷ 254 ∷ 0 ∷
    1 ∷ 2 ∷ 2 ∷ 1 ∷ 255 ∷ 1 ∷ 254 ∷ 0 ∷ []

-- by the rules policy i goes before policy j, and j doesn't go before i
pub record Before (rules : List ℕ) (i j : ℕ) : Type 0 where
  pub forth : goes_before rules table i j ≡ true
  pub back : goes_before rules table j i ≡ false

-- by the rules policy i counts in own, and policy j, one of type 1, in inh
pub record Counts (rules : List ℕ) (i j : ℕ) : Type 0 where
  pub in_own : chosen rules in_force any_type table (record_count policies table) role permission ≡ i
  pub in_inh : chosen rules in_force type_one table (record_count policies table) role permission ≡ j

-- so it is by a list that 22 doesn't refuse
pub record ByList (rules : List ℕ) (i j : ℕ) : Type 0 where
  pub legal : list_refused rules ≡ false
  pub counts : Counts rules i j

pub record Resolved : Type 0 where
  -- of two: the later, though its low byte is smaller; the larger rank; the lighter; by the second rule where the first
  -- doesn't tell them apart; in table order where none does
  pub later : Before (0 ∷ []) 4 9
  pub larger : Before (1 ∷ []) 8 4
  pub lighter : Before (2 ∷ []) 6 4
  pub second : Before (0 ∷ 2 ∷ []) 6 4
  pub level : Before (2 ∷ 1 ∷ 0 ∷ []) 12 13
  -- without a list: the first in table order
  pub none : Counts [] 3 5
  -- one rule: of the latest, 4 to 7, of the largest rank, 8 and 9, and of the lightest, 10 to 13, the first
  pub day : ByList (0 ∷ []) 4 5
  pub rank : ByList (1 ∷ []) 8 9
  pub weight : ByList (2 ∷ []) 10 10
  -- a second rule: among these
  pub day_rank : ByList (0 ∷ 1 ∷ []) 4 5
  pub day_weight : ByList (0 ∷ 2 ∷ []) 6 6
  pub rank_day : ByList (1 ∷ 0 ∷ []) 9 9
  pub rank_weight : ByList (1 ∷ 2 ∷ []) 8 9
  pub weight_day : ByList (2 ∷ 0 ∷ []) 10 10
  pub weight_rank : ByList (2 ∷ 1 ∷ []) 11 13
  -- a third: 5, not 4; 7, not 6; 12, not 11
  pub day_rank_weight : ByList (0 ∷ 1 ∷ 2 ∷ []) 5 5
  pub day_weight_rank : ByList (0 ∷ 2 ∷ 1 ∷ []) 7 6
  pub rank_day_weight : ByList (1 ∷ 0 ∷ 2 ∷ []) 9 9
  pub rank_weight_day : ByList (1 ∷ 2 ∷ 0 ∷ []) 8 9
  pub weight_day_rank : ByList (2 ∷ 0 ∷ 1 ∷ []) 10 10
  pub weight_rank_day : ByList (2 ∷ 1 ∷ 0 ∷ []) 12 13
  -- 22: no rule, four, a rule twice at any two places, another byte at any
  pub empty : list_refused [] ≡ true
  pub four : list_refused (0 ∷ 1 ∷ 2 ∷ 0 ∷ []) ≡ true
  pub twice : list_refused (0 ∷ 0 ∷ []) ≡ true
  pub first_and_last : list_refused (1 ∷ 0 ∷ 1 ∷ []) ≡ true
  pub last_two : list_refused (0 ∷ 1 ∷ 1 ∷ []) ≡ true
  pub three : list_refused (3 ∷ []) ≡ true
  pub three_behind : list_refused (0 ∷ 3 ∷ []) ≡ true
  pub largest : list_refused (255 ∷ []) ≡ true
