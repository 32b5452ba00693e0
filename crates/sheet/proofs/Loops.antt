-- The loop over entries by number, which stood where the loop goes over parts now: what it knows at its turn i.
use Prim.Native.Nat.{ℕ, zero, suc, ◌+◌, ◌*◌, ◌<◌, ◌≤◌}
use mathlib.Core.Bool.{Bool, true, false, cond}
use mathlib.Core.Path.{◌≡◌, refl, sym, ap, ◌∙◌}
use mathlib.Core.List.{List, [], ◌∷◌, ◌++◌, append-nil}
use native.Mathlib.Omega.{arith}
use lib.ListN.{length, length-append}
use Rattle.folds.specs.Below.{join_below, count_below}
use Rattle.folds.proofs.Lists.{join_more}
use Rattle.folds.proofs.Numbers.{count_le}
use Rattle.decision.specs.Groups.{entry_count, entry_user, entry_role}
use Rattle.sheet.specs.declared.Sheet.{Sheet}
use Rattle.sheet.specs.Sheets.{unsigned, holding, with_entry, staying}
use Rattle.sheet.proofs.Holding.{holding_count, holding_more}
use Rattle.sheet.proofs.Staying.{kept}

-- an entry that stays has 2 bytes
kept_length : (t : Bool) (user role : ℕ) → length (kept t user role) ≡ 2 * cond t 1 0
kept_length true user role = refl
kept_length false user role = refl

module _ (stays : ℕ → ℕ → Bool) (held : List ℕ) where
  abbrev stays_at : ℕ → Bool
  stays_at i = stays (entry_user held i) (entry_role held i)

  abbrev kept_at : ℕ → List ℕ
  kept_at i = kept (stays_at i) (entry_user held i) (entry_role held i)

  -- those of the first i entries that stay have 2 bytes each
  below_length : (i : ℕ) → length (join_below i kept_at) ≡ 2 * count_below i stays_at
  unfolding join_below count_below
  below_length zero = refl
  below_length (suc i) =
      let one = kept_length (stays_at i) (entry_user held i) (entry_role held i) in
      length-append (join_below i kept_at) (kept_at i) ∙ omega (arith, one, below_length i)

  -- `left` holds those of the first i entries that stay
  pub record StayedYet (p : ℕ) (left : Sheet) (i : ℕ) : Type 0 where
    pub within : i ≤ entry_count held
    pub few : entry_count held ≤ 6
    pub are : left ≡ holding p (join_below i kept_at)

  module _ (p : ℕ) where
    -- at first none is looked at
    pub none_stayed : entry_count held ≤ 6 → StayedYet p (unsigned p) 0
    unfolding holding join_below
    none_stayed few = record { within = omega arith; few = few; are = refl }

    module _ {left : Sheet} {i : ℕ} (yet : StayedYet p left i) where
      abbrev count : ℕ
      count = count_below i stays_at

      -- before the last entry fewer than six stay
      count_few : i < entry_count held → count < 6
      count_few l = let most = count_le stays_at i in omega (arith, yet.few)

      -- so there is room for one more
      pub room_left : i < entry_count held → left.count < 6
      room_left l =
          let is = holding_count p (join_below i kept_at) count (below_length i) in
          rw (ap (λ (s : Sheet). s.count) yet.are ∙ is) (count_few l)

      -- one entry further, which goes
      pub one_goes : i < entry_count held → stays_at i ≡ false → StayedYet p left (i + 1)
      one_goes l t =
          let same : join_below (i + 1) kept_at ≡ join_below i kept_at =
          join_more kept_at i
          ∙ ap (λ (t : Bool). join_below i kept_at ++ kept t (entry_user held i) (entry_role held i)) t
          ∙ append-nil (join_below i kept_at) in
          record { within = omega arith; few = yet.few; are = yet.are ∙ ap (holding p) (sym same) }

      -- or stays
      pub one_stays : i < entry_count held → stays_at i ≡ true →
          StayedYet p (with_entry left (entry_user held i) (entry_role held i)) (i + 1)
      one_stays l t =
          let user = entry_user held i in
          let role = entry_role held i in
          let more : join_below (i + 1) kept_at ≡ join_below i kept_at ++ (user ∷ role ∷ []) =
          join_more kept_at i ∙ ap (λ (t : Bool). join_below i kept_at ++ kept t user role) t in
          record {
            within = omega arith;
            few = yet.few;
            are =
                ap (λ (s : Sheet). with_entry s user role) yet.are
                ∙ holding_more p (join_below i kept_at) count (below_length i) user role (count_few l)
                ∙ ap (holding p) (sym more);
          }

      -- at last those of all entries that stay
      pub all_stayed : entry_count held ≤ i → left ≡ holding p (staying stays held)
      unfolding staying
      all_stayed l =
          let e : i ≡ entry_count held = omega (arith, yet.within) in
          yet.are ∙ ap (λ (n : ℕ). holding p (join_below n kept_at)) e
