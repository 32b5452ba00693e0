-- Approvers with dates (request Seven): the small shop with a clerk whose days are 300 to 400.
use Rattle.std.specs.Prelude.{ℕ, ◌≡◌, List, [], ◌∷◌, map, set}
use Rattle.std.proofs.lemmas.List.Edits.{sets}
use Rattle.reader.specs.Tables.{users, table_of}
use Rattle.reader.specs.Fields.{first_day, last_day}
use Rattle.reader.specs.Rules.{refusal_of}
use Rattle.decision.specs.Decision.{decision_of, decision_lent}
use Rattle.sheet.specs.declared.Sheet.{Sheet}
use Rattle.sheet.specs.Sheets.{unsigned, signed, asked}
use Rattle.shop.specs.Shop.{shop, manager, buyer, clerk, permission, at, manager_and_clerk}

-- the shop with these four bytes, from 24 on, as the days of user 2: the first, then the last, each low byte first
abbrev with_days : List ℕ → List ℕ
with_days days = sets shop 24 days

-- day 300 is 44 + 256, day 400 is 144 + 256
unfoldable pub seasonal : List ℕ
unfolding shop
seasonal = with_days (44 ∷ 1 ∷ 144 ∷ 1 ∷ [])

-- the first and the last day changed round, and both 400
unfoldable pub turned : List ℕ
unfolding shop
turned = with_days (144 ∷ 1 ∷ 44 ∷ 1 ∷ [])

unfoldable pub one_day : List ℕ
unfolding shop
one_day = with_days (144 ∷ 1 ∷ 144 ∷ 1 ∷ [])

-- the shop with the letters of the form before dates: P, 80, in place of Q, its last byte
unfoldable pub with_old_letters : List ℕ
unfolding shop
with_old_letters = set shop 129 80

-- at minute 600, when manager and clerk are granted, and at minute 480, when the clerk has no weight
abbrev pub in_hours : ℕ → List ℕ → ℕ
in_hours date g = decision_of seasonal (at 600 0 0 date) permission g

abbrev pub early : ℕ → List ℕ → ℕ
early date g = decision_of seasonal (at 480 0 0 date) permission g

-- a sheet that the manager signed, and the same signed by user 2, as clerk, too
unfoldable pub managers_sheet : Sheet
unfolding seasonal
managers_sheet = (signed seasonal (unsigned permission) 0 manager).sheet

unfoldable pub clerks_sheet : Sheet
unfolding managers_sheet
clerks_sheet = (signed seasonal managers_sheet 2 clerk).sheet

pub record Dated : Type 0 where
  -- the base: refusal 5 for the first day above the last, 2 for the old letters
  pub accepted : refusal_of seasonal ≡ 0
  pub first_days : map (first_day (table_of seasonal users)) (0 ∷ 1 ∷ 2 ∷ 3 ∷ []) ≡ (0 ∷ 0 ∷ 300 ∷ 0 ∷ [])
  pub last_days :
      map (last_day (table_of seasonal users)) (0 ∷ 1 ∷ 2 ∷ 3 ∷ []) ≡ (65535 ∷ 65535 ∷ 400 ∷ 65535 ∷ [])
  pub first_above : refusal_of turned ≡ 5
  pub first_is_last : refusal_of one_day ≡ 0
  pub old_letters : refusal_of with_old_letters ≡ 2
  -- both days included; the other clerk has all days
  pub day_before : in_hours 299 (manager_and_clerk 2) ≡ 24
  pub on_the_first : in_hours 300 (manager_and_clerk 2) ≡ 0
  pub on_the_last : in_hours 400 (manager_and_clerk 2) ≡ 0
  pub day_after : in_hours 401 (manager_and_clerk 2) ≡ 24
  pub low_byte_alone : in_hours 44 (manager_and_clerk 2) ≡ 24
  pub other_clerk : in_hours 299 (manager_and_clerk 3) ≡ 0
  -- 15 for the second entry goes before 24 for the first, and 24 for the second before 16 for the first
  pub after_15 : in_hours 299 (2 ∷ clerk ∷ 3 ∷ buyer ∷ []) ≡ 15
  pub before_16 : early 401 (3 ∷ clerk ∷ 2 ∷ clerk ∷ []) ≡ 24
  pub else_16 : early 400 (3 ∷ clerk ∷ 2 ∷ clerk ∷ []) ≡ 16
  pub before_17 : in_hours 401 (2 ∷ clerk ∷ []) ≡ 24
  pub else_17 : in_hours 400 (2 ∷ clerk ∷ []) ≡ 17
  -- the same with a list
  pub with_list : decision_lent (0 ∷ []) seasonal (at 600 0 0 401) permission (manager_and_clerk 2) ≡ 24
  pub list_first : decision_lent [] seasonal (at 600 0 0 401) permission (manager_and_clerk 2) ≡ 22
  -- 11 for a date above 65535, after 10 and before 12
  pub last_date : in_hours 65535 (manager_and_clerk 3) ≡ 0
  pub no_date : in_hours 65536 (manager_and_clerk 3) ≡ 11
  pub after_10 : decision_of seasonal (at 600 0 0 65536) 1 [] ≡ 10
  pub before_12 : in_hours 65536 [] ≡ 11
  -- signing knows no date; asking does
  pub signs : (signed seasonal managers_sheet 2 clerk).refusal ≡ 0
  pub asked_in_date : asked seasonal clerks_sheet (at 600 0 0 400) ≡ 0
  pub asked_out_of_date : asked seasonal clerks_sheet (at 600 0 0 401) ≡ 24
