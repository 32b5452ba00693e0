-- The entries that stay on a sheet: what a loop that keeps them knows at its turn i, and the first of them.
use Prim.Native.Nat.{ℕ, suc, ◌+◌, ◌*◌, ◌<◌, ◌≤◌}
use mathlib.Core.Bool.{Bool, true, false, cond}
use mathlib.Core.Path.{◌≡◌, refl, sym, ap, ◌∙◌}
use mathlib.Core.List.{List, [], ◌∷◌, ◌++◌, append-nil, append_assoc}
use native.Mathlib.Omega.{arith}
use lib.ListN.{length, length-append, get_or}
use Rattle.folds.specs.Below.{join_below}
use Rattle.folds.proofs.Lists.{join_first, join_same}
use Rattle.decision.specs.Groups.{entry_count, entry_user, entry_role}
use Rattle.decision.proofs.Front.{front_count, later_user, later_role}
use Rattle.sheet.specs.declared.Sheet.{Sheet}
use Rattle.sheet.specs.Sheets.{unsigned, holding, with_entry, staying}
use Rattle.sheet.proofs.Holding.{holding_count, holding_more}

-- an entry, if it stays
abbrev pub kept : Bool → ℕ → ℕ → List ℕ
kept t user role = cond t (user ∷ role ∷ []) []

pair_is : (entry : List ℕ) → length entry ≡ 2 → entry ≡ get_or entry 0 0 ∷ get_or entry 1 0 ∷ []
pair_is [] h = absurd (omega (arith, h))
pair_is (u ∷ []) h = absurd (omega (arith, h))
pair_is (u ∷ r ∷ []) h = refl
pair_is (u ∷ r ∷ x ∷ l) h = absurd (omega (arith, h))

module _ (stays : ℕ → ℕ → Bool) (held : List ℕ) where
  abbrev stays_at : ℕ → Bool
  stays_at i = stays (entry_user held i) (entry_role held i)

  abbrev kept_at : ℕ → List ℕ
  kept_at i = kept (stays_at i) (entry_user held i) (entry_role held i)

-- of an entry and those behind it
module _ (stays : ℕ → ℕ → Bool) (u r : ℕ) (l : List ℕ) where
  later_kept : (i : ℕ) → kept_at stays (u ∷ r ∷ l) (suc i) ≡ kept_at stays l i
  later_kept i = rw (later_user u r l i, later_role u r l i)

  pub staying_first : staying stays (u ∷ r ∷ l) ≡ kept (stays u r) u r ++ staying stays l
  unfolding staying
  staying_first =
      ap (λ (k : ℕ). join_below k (kept_at stays (u ∷ r ∷ l))) (front_count u r l)
      ∙ join_first (kept_at stays (u ∷ r ∷ l)) (entry_count l)
      ∙ ap (λ (m : List ℕ). kept (stays u r) u r ++ m)
      (join_same _ (kept_at stays l) (entry_count l) (λ i h. later_kept i))

-- what the loop knows where `rest` is left to look at: `left` holds those of the others that stay
pub record StayedYet (stays : ℕ → ℕ → Bool) (held : List ℕ) (p : ℕ) (left : Sheet) (rest : List ℕ) : Type 0 where
  pub done : List ℕ
  pub count : ℕ
  pub size : length done ≡ 2 * count
  pub few : count + entry_count rest ≤ 6
  pub are : left ≡ holding p done
  pub whole : done ++ staying stays rest ≡ staying stays held

module _ (stays : ℕ → ℕ → Bool) (held : List ℕ) (p : ℕ) where
  pub none_stayed : entry_count held ≤ 6 → StayedYet stays held p (unsigned p) held
  unfolding holding
  none_stayed few =
      record { done = []; count = 0; size = refl; few = omega (arith, few); are = refl; whole = refl }

  -- an entry, and what is left behind it
  module _ {left : Sheet} {rest : List ℕ} (entry after : List ℕ) (yet : StayedYet stays held p left rest)
      (are : rest ≡ entry ++ after) (size : length entry ≡ 2) where
    shorter : length rest ≡ 2 + length after
    shorter = ap length are ∙ length-append entry after ∙ omega (arith, size)

    pub room_left : left.count < 6
    room_left =
        let is = holding_count p yet.done yet.count yet.size in
        rw (ap (λ (s : Sheet). s.count) yet.are ∙ is) (omega (arith, yet.few, shorter))

    step : {t : Bool} → stays (get_or entry 0 0) (get_or entry 1 0) ≡ t →
        staying stays rest ≡ kept t (get_or entry 0 0) (get_or entry 1 0) ++ staying stays after
    step h =
        let user = get_or entry 0 0 in
        let role = get_or entry 1 0 in
        ap (staying stays) (are ∙ ap (λ (e : List ℕ). e ++ after) (pair_is entry size))
        ∙ staying_first stays user role after
        ∙ ap (λ (t : Bool). kept t user role ++ staying stays after) h

    pub one_goes : stays (get_or entry 0 0) (get_or entry 1 0) ≡ false → StayedYet stays held p left after
    one_goes h =
        record {
          done = yet.done;
          count = yet.count;
          size = yet.size;
          few = omega (arith, yet.few, shorter);
          are = yet.are;
          whole = ap (λ (l : List ℕ). yet.done ++ l) (sym (step h)) ∙ yet.whole;
        }

    pub one_stays : stays (get_or entry 0 0) (get_or entry 1 0) ≡ true →
        StayedYet stays held p (with_entry left (get_or entry 0 0) (get_or entry 1 0)) after
    one_stays h =
        let user = get_or entry 0 0 in
        let role = get_or entry 1 0 in
        let more : List ℕ = user ∷ role ∷ [] in
        record {
          done = yet.done ++ more;
          count = yet.count + 1;
          size = length-append yet.done more ∙ omega (arith, yet.size);
          few = omega (arith, yet.few, shorter);
          are =
              ap (λ (s : Sheet). with_entry s user role) yet.are
              ∙ holding_more p yet.done yet.count yet.size user role (omega (arith, yet.few, shorter));
          whole =
              append_assoc yet.done more (staying stays after)
              ∙ ap (λ (l : List ℕ). yet.done ++ l) (sym (step h)) ∙ yet.whole;
        }

  pub all_stayed : {left : Sheet} {rest : List ℕ} → StayedYet stays held p left rest → length rest < 2 →
      left ≡ holding p (staying stays held)
  unfolding staying join_below
  all_stayed {rest = rest} yet l =
      let none : entry_count rest ≡ 0 = omega arith in
      let nothing : staying stays rest ≡ [] = rw none refl in
      yet.are
      ∙ ap (holding p) (sym (append-nil yet.done) ∙ ap (λ (m : List ℕ). yet.done ++ m) (sym nothing) ∙ yet.whole)
