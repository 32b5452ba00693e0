-- The entries of a group put one behind the other, from the first on.
use Prim.Native.Nat.{ℕ, suc, ◌+◌, ◌<◌, ◌≤◌}
use mathlib.Core.Path.{◌≡◌, refl, sym, ap, ◌∙◌}
use mathlib.Core.List.{List, [], ◌∷◌, ◌++◌, append-nil, append_assoc}
use native.Mathlib.Omega.{arith}
use lib.ListN.{length, get_or, length-append}
use Rattle.folds.specs.Below.{join_below}
use Rattle.folds.proofs.Lists.{join_first, join_same}
use Rattle.decision.specs.Groups.{entry_count}
use Rattle.decision.proofs.Front.{front_count, later_user, later_role}
use Rattle.release_list.specs.Text.{entry_at, entry_text}
use Rattle.release_list.specs.Writing.{Written, standing_text}
use Rattle.release_list.proofs.Stores.{joined, room_behind}

-- an entry, and those behind it
module _ (u r : ℕ) (l : List ℕ) where
  later_at : (i : ℕ) → entry_at (u ∷ r ∷ l) (suc i) ≡ entry_at l i
  later_at i = rw (later_user u r l i, later_role u r l i)

  standing_first : standing_text (u ∷ r ∷ l) ≡ entry_text u r ++ standing_text l
  unfolding standing_text
  standing_first =
      ap (λ (k : ℕ). join_below k (entry_at (u ∷ r ∷ l))) (front_count u r l)
      ∙ join_first (entry_at (u ∷ r ∷ l)) (entry_count l)
      ∙ ap (λ (m : List ℕ). entry_text u r ++ m) (join_same _ (entry_at l) (entry_count l) (λ i h. later_at i))

pair_is : (entry : List ℕ) → length entry ≡ 2 → entry ≡ get_or entry 0 0 ∷ get_or entry 1 0 ∷ []
pair_is [] h = absurd (omega (arith, h))
pair_is (u ∷ []) h = absurd (omega (arith, h))
pair_is (u ∷ r ∷ []) h = refl
pair_is (u ∷ r ∷ x ∷ l) h = absurd (omega (arith, h))

standing_short : (g : List ℕ) → length g < 2 → standing_text g ≡ []
unfolding standing_text join_below
standing_short g h = let none : entry_count g ≡ 0 = omega arith in rw none refl

-- where `rest` of the group is left, those before it are put
pub record EntriesYet (g l : List ℕ) (at : ℕ) (m : List ℕ) (next : ℕ) (rest : List ℕ) : Type 0 where
  pub done : List ℕ
  pub put : Written done l at next m
  pub whole : done ++ standing_text rest ≡ standing_text g

module _ {g l m rest : List ℕ} {at next : ℕ} (yet : EntriesYet g l at m next rest) where
  pub all_put : length rest < 2 → Written (standing_text g) l at next m
  all_put h =
      let e : yet.done ≡ standing_text g =
      sym (append-nil yet.done) ∙ ap (λ (t : List ℕ). yet.done ++ t) (sym (standing_short rest h)) ∙ yet.whole in
      rw e at yet.put

  -- the next entry, and what is left behind it
  module _ (entry after : List ℕ) (are : rest ≡ entry ++ after) (size : length entry ≡ 2) where
    abbrev text : List ℕ
    text = entry_text (get_or entry 0 0) (get_or entry 1 0)

    step : yet.done ++ (text ++ standing_text after) ≡ standing_text g
    step =
        let first = ap standing_text (are ∙ ap (λ (e : List ℕ). e ++ after) (pair_is entry size)) in
        ap (λ (t : List ℕ). yet.done ++ t)
        (sym (first ∙ standing_first (get_or entry 0 0) (get_or entry 1 0) after)) ∙ yet.whole

    pub next_room : at + length (standing_text g) ≤ length l → next + length text ≤ length m
    next_room fits =
        let all = ap length (sym step) ∙ length-append yet.done (text ++ standing_text after) in
        room_behind _ yet.put (omega (arith, fits, all, length-append text (standing_text after)))

    pub one_put : {k : List ℕ} {behind : ℕ} → Written text m next behind k → EntriesYet g l at k behind after
    one_put w =
        record {
          done = yet.done ++ text;
          put = joined yet.put w;
          whole = append_assoc yet.done text (standing_text after) ∙ step;
        }
