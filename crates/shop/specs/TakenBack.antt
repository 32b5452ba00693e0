-- Signatures taken back (request Five): a morning on a sheet for the small shop, and withdrawals from sheets that no
-- call made.
use Rattle.std.specs.Prelude.{ℕ, ◌≡◌, List, [], ◌∷◌, take}
use Rattle.sheet.specs.Sheets.{opened, withdrawn}
use Rattle.sheet.specs.Signings.{entries_of}
use Rattle.sheet.specs.Events.{Event, signs, withdraws, held_after}
use Rattle.sheet.specs.Form.{bytes_of, sheet_of, bytes_after_all}
use Rattle.shop.specs.Shop.{shop, buyer, clerk, permission}

abbrev pub signing : ℕ → ℕ → Event
signing user role = signs (record { base = shop; user = user; role = role })

-- user 0, the manager, signs as buyer, user 3 as clerk, user 1 as buyer and once more as clerk, which is refused;
-- user 3 withdraws, again in vain, and signs again; user 0 withdraws
unfoldable pub morning : List Event
unfolding shop
morning =
    signing 0 buyer ∷ signing 3 clerk ∷ signing 1 buyer ∷ signing 1 clerk
    ∷ withdraws 3 ∷ withdraws 3 ∷ signing 3 clerk ∷ withdraws 0 ∷ []

-- the entries that stand after n of the events
unfoldable pub stand_after : ℕ → List ℕ
unfolding morning
stand_after n = entries_of (held_after (take n morning))

-- user u withdrawn from the sheet that these bytes are: the answer, then the bytes afterwards
abbrev pub withdrawn_from : List ℕ → ℕ → List ℕ
withdrawn_from bytes u = (withdrawn (sheet_of bytes) u).refusal ∷ bytes_of (withdrawn (sheet_of bytes) u).sheet

pub record TakenBack : Type 0 where
  pub one_signed : stand_after 1 ≡ 0 ∷ buyer ∷ []
  pub two_signed : stand_after 2 ≡ 0 ∷ buyer ∷ 3 ∷ clerk ∷ []
  pub three_signed : stand_after 3 ≡ 0 ∷ buyer ∷ 3 ∷ clerk ∷ 1 ∷ buyer ∷ []
  pub refused : stand_after 4 ≡ 0 ∷ buyer ∷ 3 ∷ clerk ∷ 1 ∷ buyer ∷ []
  pub clerk_withdrawn : stand_after 5 ≡ 0 ∷ buyer ∷ 1 ∷ buyer ∷ []
  pub in_vain : stand_after 6 ≡ 0 ∷ buyer ∷ 1 ∷ buyer ∷ []
  pub signed_again : stand_after 7 ≡ 0 ∷ buyer ∷ 1 ∷ buyer ∷ 3 ∷ clerk ∷ []
  pub manager_withdrawn : stand_after 8 ≡ 1 ∷ buyer ∷ 3 ∷ clerk ∷ []
  -- the 14 bytes that the calls leave
  pub bytes : bytes_after_all (bytes_of (opened shop permission).sheet) morning ≡
      permission ∷ 2 ∷ 1 ∷ buyer ∷ 3 ∷ clerk ∷ 0 ∷ 0 ∷ 0 ∷ 0 ∷ 0 ∷ 0 ∷ 0 ∷ 0 ∷ []
  -- from a sheet that claims 255 entries, of which six are held, one goes, and five are left
  pub over_six : withdrawn_from (7 ∷ 255 ∷ 1 ∷ 0 ∷ 2 ∷ 1 ∷ 3 ∷ 2 ∷ 4 ∷ 3 ∷ 5 ∷ 4 ∷ 6 ∷ 5 ∷ []) 2 ≡
      0 ∷ 7 ∷ 5 ∷ 1 ∷ 0 ∷ 3 ∷ 2 ∷ 4 ∷ 3 ∷ 5 ∷ 4 ∷ 6 ∷ 5 ∷ 0 ∷ 0 ∷ []
  -- a user named twice goes from both places, another named twice stays in both, and the bytes behind are cleared
  pub twice : withdrawn_from (7 ∷ 4 ∷ 2 ∷ 0 ∷ 1 ∷ 1 ∷ 2 ∷ 2 ∷ 1 ∷ 3 ∷ 9 ∷ 9 ∷ 9 ∷ 9 ∷ []) 2 ≡
      0 ∷ 7 ∷ 2 ∷ 1 ∷ 1 ∷ 1 ∷ 3 ∷ 0 ∷ 0 ∷ 0 ∷ 0 ∷ 0 ∷ 0 ∷ 0 ∷ 0 ∷ []
  -- 23, and every byte as it was: one who stands only behind those held, user 256 where user 0 is held, and the
  -- number of a role on a sheet that claims 255
  pub behind : withdrawn_from (7 ∷ 1 ∷ 0 ∷ 3 ∷ 9 ∷ 9 ∷ 9 ∷ 9 ∷ 9 ∷ 9 ∷ 9 ∷ 9 ∷ 9 ∷ 9 ∷ []) 9 ≡
      23 ∷ 7 ∷ 1 ∷ 0 ∷ 3 ∷ 9 ∷ 9 ∷ 9 ∷ 9 ∷ 9 ∷ 9 ∷ 9 ∷ 9 ∷ 9 ∷ 9 ∷ []
  pub not_cut : withdrawn_from (7 ∷ 1 ∷ 0 ∷ 3 ∷ 9 ∷ 9 ∷ 9 ∷ 9 ∷ 9 ∷ 9 ∷ 9 ∷ 9 ∷ 9 ∷ 9 ∷ []) 256 ≡
      23 ∷ 7 ∷ 1 ∷ 0 ∷ 3 ∷ 9 ∷ 9 ∷ 9 ∷ 9 ∷ 9 ∷ 9 ∷ 9 ∷ 9 ∷ 9 ∷ 9 ∷ []
  pub role_alone : withdrawn_from (7 ∷ 255 ∷ 0 ∷ 3 ∷ 9 ∷ 9 ∷ 9 ∷ 9 ∷ 9 ∷ 9 ∷ 9 ∷ 9 ∷ 9 ∷ 9 ∷ []) 3 ≡
      23 ∷ 7 ∷ 255 ∷ 0 ∷ 3 ∷ 9 ∷ 9 ∷ 9 ∷ 9 ∷ 9 ∷ 9 ∷ 9 ∷ 9 ∷ 9 ∷ 9 ∷ []
