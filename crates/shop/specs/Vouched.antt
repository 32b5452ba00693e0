-- Vouching (request Nine): the small shop with a register in which a clerk trusts the manager.
use Rattle.std.specs.Prelude.{ℕ, ◌/◌, ◌%◌, ◌≡◌, List, [], ◌∷◌, ◌++◌, take}
use Rattle.report.specs.Smallest.{smallest_by}
use Rattle.vouch.specs.Decision.{Lent, decision_vouched}
use Rattle.vouch.specs.Report.{led_vouched}
use Rattle.shop.specs.Shop.{shop, manager, clerk, permission, at, manager_alone, manager_and_clerk}
use Rattle.shop.specs.Dated.{seasonal}

-- a statement: user u trusts user q for the permission at t from the first date to the last
abbrev pub statement : ℕ → ℕ → ℕ → ℕ → ℕ → List ℕ
statement u q t first last =
    u ∷ q ∷ permission ∷ t ∷ first % 256 ∷ first / 256 ∷ last % 256 ∷ last / 256 ∷ []

-- user 2, a clerk, trusts user 0, the manager, at 3 on dates 10 to 20
unfoldable pub register : List ℕ
register = statement 2 0 3 10 20

-- that clerk trusts the manager at 5 on later dates, and at 1 on these
unfoldable pub two_statements : List ℕ
two_statements = statement 2 0 5 21 30 ++ statement 2 0 1 10 20

-- the register without its last byte
unfoldable pub seven_bytes : List ℕ
unfolding register
seven_bytes = take 7 register

-- the answer by these statements and a threshold on a date, at minute 600, when manager and clerk are granted
abbrev pub vouched_on : List ℕ → ℕ → ℕ → List ℕ → ℕ
vouched_on statements threshold date g = decision_vouched statements threshold shop (at 600 0 0 date) permission g

-- and by the register at minute 480, when the clerk has no weight
abbrev pub early_on : ℕ → List ℕ → ℕ
early_on date g = decision_vouched register 3 shop (at 480 0 0 date) permission g

-- the least number of approvers that user q, the requester, needs on date 15
abbrev pub least_for : ℕ → ℕ
least_for q = smallest_by (led_vouched register 3 shop (at 600 0 0 15) q) permission

pub record Vouched : Type 0 where
  -- none of 1 to 9, 25 and 27 applies
  pub lent : Lent register 3 shop
  -- both days included; 271 is 15 + 256
  pub day_before : vouched_on register 3 9 (manager_and_clerk 2) ≡ 26
  pub on_the_first : vouched_on register 3 10 (manager_and_clerk 2) ≡ 0
  pub between : vouched_on register 3 15 (manager_and_clerk 2) ≡ 0
  pub on_the_last : vouched_on register 3 20 (manager_and_clerk 2) ≡ 0
  pub day_after : vouched_on register 3 21 (manager_and_clerk 2) ≡ 26
  pub same_low_byte : vouched_on register 3 271 (manager_and_clerk 2) ≡ 26
  -- a threshold above the trust; the clerk first, for whom the manager doesn't vouch; the other clerk; no statement
  pub less_trust : vouched_on register 4 15 (manager_and_clerk 2) ≡ 26
  pub turned_round : vouched_on register 3 15 (2 ∷ clerk ∷ 0 ∷ manager ∷ []) ≡ 26
  pub other_clerk : vouched_on register 3 15 (manager_and_clerk 3) ≡ 26
  pub none_stated : vouched_on [] 1 15 (manager_and_clerk 2) ≡ 26
  -- who asks alone needs no statement: 17 as in case 4
  pub alone : vouched_on [] 3 15 manager_alone ≡ 17
  -- one statement has the trust and another the date: together they don't do; at threshold 1 the second does
  pub not_together : vouched_on two_statements 3 15 (manager_and_clerk 2) ≡ 26
  pub by_the_second : vouched_on two_statements 1 15 (manager_and_clerk 2) ≡ 0
  -- 25: no whole statement, a trust of 6, a user who isn't there
  pub not_whole : vouched_on seven_bytes 3 15 (manager_and_clerk 2) ≡ 25
  pub trust_6 : vouched_on (statement 2 0 6 10 20) 3 15 (manager_and_clerk 2) ≡ 25
  pub user_4 : vouched_on (statement 4 0 3 10 20) 3 15 (manager_and_clerk 2) ≡ 25
  -- 27, after 25 and before 10
  pub threshold_0 : vouched_on register 0 15 (manager_and_clerk 2) ≡ 27
  pub threshold_6 : vouched_on register 6 15 (manager_and_clerk 2) ≡ 27
  pub before_27 : vouched_on seven_bytes 0 15 (manager_and_clerk 2) ≡ 25
  pub before_10 : decision_vouched register 0 shop (at 600 0 0 15) 1 [] ≡ 27
  -- 26, after 24, which a clerk with days 300 to 400 gets on date 15, and before 16
  pub before_26 : decision_vouched [] 3 seasonal (at 600 0 0 15) permission (manager_and_clerk 2) ≡ 24
  pub before_16 : early_on 21 (manager_and_clerk 2) ≡ 26
  pub else_16 : early_on 20 (manager_and_clerk 2) ≡ 16
  -- the report's numbers: the manager needs one more; the other clerk, for whom nobody vouches, gets none
  pub for_manager : least_for 0 ≡ 2
  pub for_other_clerk : least_for 3 ≡ 0
