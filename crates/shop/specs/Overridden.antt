-- The decision by a resolution list (request Four) on the small shop, with two policies of the buyer.
use Rattle.std.specs.Prelude.{ℕ, ◌≡◌, List, [], ◌∷◌, set}
use Rattle.reader.specs.Rules.{refusal_of}
use Rattle.decision.specs.Decision.{decision_of, decision_lent}
use Rattle.shop.specs.Shop.{shop, buyer, permission, at}

-- the shop with the buyer's weight 3 (byte 80), and the clerk's policy, of weight 1, given to the buyer (byte 86)
unfoldable pub two_of_buyer : List ℕ
unfolding shop
two_of_buyer = set (set shop 80 3) 86 buyer

-- users 0 and 1, both as buyer
abbrev pub two_buyers : List ℕ
two_buyers = 0 ∷ buyer ∷ 1 ∷ buyer ∷ []

pub record Overridden : Type 0 where
  pub accepted : refusal_of two_of_buyer ≡ 0
  -- without a list and by day, which doesn't tell the two policies apart, weight 3 counts; by weight, 1
  pub without : decision_of two_of_buyer (at 600 0 0 0) permission two_buyers ≡ 0
  pub by_day : decision_lent (0 ∷ []) two_of_buyer (at 600 0 0 0) permission two_buyers ≡ 0
  pub by_weight : decision_lent (2 ∷ []) two_of_buyer (at 600 0 0 0) permission two_buyers ≡ 17
  -- 1 to 9, 22, 10, 11, 12: each before all that come after it
  pub base_first : decision_lent [] [] (at 1440 0 0 0) 1 [] ≡ 1
  pub list_next : decision_lent [] two_of_buyer (at 1440 0 0 0) 1 [] ≡ 22
  pub then_10 : decision_lent (0 ∷ []) two_of_buyer (at 1440 0 0 0) 1 [] ≡ 10
  pub then_11 : decision_lent (0 ∷ []) two_of_buyer (at 1440 0 0 0) permission [] ≡ 11
  pub then_12 : decision_lent (0 ∷ []) two_of_buyer (at 600 0 0 0) permission [] ≡ 12
