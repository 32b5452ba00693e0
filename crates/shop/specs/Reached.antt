-- Request Three's bound on the small shop: there no smaller number holds, whether a weight rises or falls; and it looks
-- at the policy's role alone, and at no list.
use Rattle.std.specs.Prelude.{ℕ, ◌≡◌, List, [], ◌∷◌, set}
use Rattle.reader.specs.Rules.{refusal_of}
use Rattle.shift.specs.Shift.{distance, with_weight, sum_by, bound_answer}
use Rattle.shop.specs.Shop.{shop, manager, buyer, clerk, permission, at}

-- its policies
abbrev pub managers_policy : ℕ
managers_policy = 0

abbrev pub buyers_policy : ℕ
buyers_policy = 1

abbrev pub clerks_policy : ℕ
clerks_policy = 2

-- a group of all three roles
abbrev pub one_of_each : List ℕ
one_of_each = 0 ∷ manager ∷ 1 ∷ buyer ∷ 2 ∷ clerk ∷ []

-- the shop with the manager, not the buyer, over the clerk (byte 2): buyer and clerk stand side by side
unfoldable pub side_by_side : List ℕ
unfolding shop
side_by_side = set shop 2 manager

-- the shop with the clerk's policy of type 0 (byte 89) and in a context without a clause (byte 90)
unfoldable pub idle : List ℕ
unfolding shop
idle = set (set shop 89 0) 90 3

-- the shop with the clerk's policy given to the buyer (byte 86), behind the buyer's own, which always counts
unfoldable pub behind : List ℕ
unfolding shop
behind = set shop 86 buyer

-- the same with the weight 3 (byte 88)
unfoldable pub heavier_behind : List ℕ
unfolding behind
heavier_behind = set behind 88 3

-- where policy i gets the weight w, the bound for one of each is n
pub record BoundAs (b : List ℕ) (i w n : ℕ) : Type 0 where
  pub accepted : refusal_of (with_weight b i w) ≡ 0
  pub answer : bound_answer b i w one_of_each ≡ record { refusal = 0; count = n }

-- and by the rules, at minute 600, on every day, in every zone and on every date, the two sums differ by m
pub record MovedAs (rules b : List ℕ) (i w n m : ℕ) : Type 0 where
  pub bound : BoundAs b i w n
  pub sums : (d z t : ℕ) →
      distance (sum_by rules b (at 600 d z t) permission one_of_each)
      (sum_by rules (with_weight b i w) (at 600 d z t) permission one_of_each)
      ≡ m

-- without a list they differ by n
abbrev pub ReachedAs : List ℕ → ℕ → ℕ → ℕ → Type 0
ReachedAs b i w n = MovedAs [] b i w n n

-- or not at all
abbrev pub UnmovedAs : List ℕ → ℕ → ℕ → ℕ → Type 0
UnmovedAs b i w n = MovedAs [] b i w n 0

pub record Reached : Type 0 where
  -- the manager's weight falls from 3 to 1: one entry
  pub by_manager : ReachedAs shop managers_policy 1 2
  -- the buyer's rises from 1 to 5: the buyer and the manager, who is senior to the buyer, but not the clerk
  pub by_buyer : ReachedAs shop buyers_policy 5 8
  -- the clerk's rises from 1 to 5: all three, the manager by a chain of two records
  pub by_clerk : ReachedAs shop clerks_policy 5 12
  -- the buyer's again, with the clerk at the buyer's side: the buyer and the manager
  pub at_the_side : ReachedAs side_by_side buyers_policy 5 8
  -- only the policy's role is looked at: not its type and its context, nor whether another goes before it
  pub by_role_alone : UnmovedAs idle clerks_policy 5 12
  pub by_role_behind : UnmovedAs behind clerks_policy 5 8
  -- the buyer's rises from 1 to 5, past the 3 of the buyer's other policy: by rule 2 that one counts then
  pub in_table_order : ReachedAs heavier_behind buyers_policy 5 8
  pub by_weight : MovedAs (2 ∷ []) heavier_behind buyers_policy 5 8 4
