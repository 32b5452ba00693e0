-- A refresh (request Ten): the small shop's fields asked for in one call.
use Rattle.std.specs.Prelude.{ℕ, ◌≡◌, List, [], ◌∷◌, ◌++◌, replicate}
use Rattle.batch.specs.Queries.{answer_to}
use Rattle.batch.specs.Batch.{batch_refusal, batch_bytes}
use Rattle.shop.specs.Shop.{shop, manager, buyer, clerk, permission, at}
use Rattle.shop.specs.Dated.{seasonal, with_old_letters}

-- a query for the permission of n entries: the manager's, then user u in role r, and four that are noise
abbrev pub of_two : ℕ → ℕ → ℕ → List ℕ
of_two n u r = permission ∷ n ∷ 0 ∷ manager ∷ u ∷ r ∷ replicate 8 9

-- one for permission 1, which isn't there, of no entry
abbrev pub of_no_permission : List ℕ
of_no_permission = 1 ∷ 0 ∷ replicate 12 0

-- one of user 2 alone, as buyer
abbrev pub of_user_2 : List ℕ
of_user_2 = permission ∷ 1 ∷ 2 ∷ buyer ∷ replicate 10 9

unfoldable pub queries : List ℕ
queries =
    of_two 2 1 buyer
    ++ of_two 2 2 clerk
    ++ of_two 1 1 buyer
    ++ of_two 0 1 buyer
    ++ of_two 3 1 buyer
    ++ of_two 7 1 buyer
    ++ of_no_permission
    ++ of_two 2 0 manager
    ++ of_user_2

-- the answers at minute 480, when manager and buyer are granted and the clerk has no weight; 13 comes of the third
-- entry, noise that this query alone counts
abbrev pub answers : List ℕ
answers = 0 ∷ 16 ∷ 17 ∷ 12 ∷ 13 ∷ 12 ∷ 10 ∷ 14 ∷ 15 ∷ []

pub record Refreshed : Type 0 where
  -- the ninth byte is the last that is written
  pub all_nine : batch_bytes shop (at 480 0 0 15) queries (replicate 11 7) ≡ answers ++ (7 ∷ 7 ∷ [])
  pub exact : batch_bytes shop (at 480 0 0 15) queries (replicate 9 7) ≡ answers
  -- one byte too few: 28, and none is written
  pub one_short : batch_refusal shop (at 480 0 0 15) 126 8 ≡ 28
  pub untouched : batch_bytes shop (at 480 0 0 15) queries (replicate 8 7) ≡ replicate 8 7
  -- six entries are read, seven and more answer 12
  pub six_read : answer_to shop (at 480 0 0 15) (of_two 6 1 buyer) ≡ 13
  pub far_above : answer_to shop (at 480 0 0 15) (of_two 255 1 buyer) ≡ 12
  -- 10 with a count in order
  pub no_permission : answer_to shop (at 480 0 0 15) (1 ∷ 2 ∷ replicate 12 0) ≡ 10
  -- by day the clerk has weight
  pub by_day : answer_to shop (at 600 0 0 15) (of_two 2 2 clerk) ≡ 0
  -- 24, on a date outside user 2's days
  pub out_of_date : answer_to seasonal (at 600 0 0 299) (of_two 2 2 clerk) ≡ 24
  pub in_date : answer_to seasonal (at 600 0 0 300) (of_two 2 2 clerk) ≡ 0
  -- a call without queries is done and writes nothing; in a context out of range it is refused even so
  pub no_query : batch_refusal shop (at 480 0 0 15) 0 0 ≡ 0
  pub none_written : batch_bytes shop (at 480 0 0 15) [] (7 ∷ []) ≡ (7 ∷ [])
  pub out_of_range : batch_refusal shop (at 1440 0 0 15) 0 0 ≡ 11
  -- 1,024 queries and no more; whole ones; 11 before 28
  pub most : batch_refusal shop (at 480 0 0 15) 14336 1024 ≡ 0
  pub one_more : batch_refusal shop (at 480 0 0 15) 14350 1025 ≡ 28
  pub not_whole : batch_refusal shop (at 480 0 0 15) 13 1 ≡ 28
  pub before_28 : batch_refusal shop (at 480 0 0 65536) 13 1 ≡ 11
  pub before_11 : batch_refusal with_old_letters (at 1440 0 0 15) 13 1 ≡ 2
