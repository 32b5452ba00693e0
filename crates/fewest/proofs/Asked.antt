-- What the search by masks finds is what the permission's condition asks for.
use Prim.Native.Nat.{ℕ, ◌+◌, ◌-◌, ◌*◌, ◌^◌, ◌<◌, ◌≤◌}
use mathlib.Core.Bool.{Bool, true, false}
use mathlib.Core.Path.{◌≡◌, refl, sym, ◌∙◌}
use mathlib.Core.Logic.{⊎_elim}
use mathlib.Core.List.{List, [], ◌∷◌}
use native.Mathlib.Omega.{arith}
use borrow.Author.Tests.{leb-true, leb-false, lt-ltb, eqb-true, eqb-false}
use lib.Bits.{bit_or, or_lt}
use lib.Dec.{leb, eqb}
use lib.Pow.{pow-lt, pow_pos}
use lib.ListN.{length, get_or}
use Rattle.folds.specs.Sets.{in_set}
use Rattle.folds.proofs.Bools.{met_or_not, clash, or_either}
use Rattle.folds.proofs.Sets.{in_none, in_or, in_one}
use Rattle.decision.specs.Conditions.{permission_holds}
use Rattle.multisets.specs.Rising.{Entry, Rises, entries_sum, entries_roles}
use Rattle.seek.specs.Search.{met_by, by_masks, Meets, Answered}
use Rattle.masks.specs.declared.Placed.{Placed}
use Rattle.masks.specs.declared.Weighed.{Weighed}
use Rattle.fewest.specs.Search.{holds_with, WeighedBelow, IsLast}

-- the sum and the set of entries by rising user, whose roles have weight
module _ (sets : List ℕ) {w : List ℕ} {s : Weighed} (weighed : WeighedBelow w 8 s) where
  pub sum_least : (from : ℕ) (g : List Entry) → Rises sets w from g → length g * s.light ≤ entries_sum w g
  sum_least from [] r = omega arith
  sum_least from (e ∷ g) r =
      let m = r.1 in
      omega (arith, sum_least (e.user + 1) g r.2, weighed.light e.role m.role m.heavy)

  pub sum_most : (from : ℕ) (g : List Entry) → Rises sets w from g → entries_sum w g ≤ length g * s.heavy
  sum_most from [] r = omega arith
  sum_most from (e ∷ g) r = omega (arith, sum_most (e.user + 1) g r.2, weighed.heavy e.role r.1.role)

  pub roles_low : (from : ℕ) (g : List Entry) → Rises sets w from g → entries_roles g < 2 ^ s.end
  roles_low from [] r = pow_pos s.end
  roles_low from (e ∷ g) r =
      let m = r.1 in
      or_lt s.end (2 ^ e.role) (entries_roles g) (pow-lt (weighed.before e.role m.role m.heavy))
      (roles_low (e.user + 1) g r.2)

  pub roles_heavy : (from : ℕ) (g : List Entry) → Rises sets w from g → (q : ℕ) → in_set (entries_roles g) q ≡ true →
      0 < get_or w q 0
  roles_heavy from [] r q h = clash (in_set 0 q) h (in_none q)
  roles_heavy from (e ∷ g) r q h = ⊎_elim
      (λ a. let i : q ≡ e.role = eqb-true _ _ (sym (in_one e.role q) ∙ a) in rw i r.1.heavy)
      (λ a. roles_heavy (e.user + 1) g r.2 q a)
      (or_either (in_set (2 ^ e.role) q) (in_set (entries_roles g) q)
      (sym (in_or (2 ^ e.role) (entries_roles g) q) ∙ h))

-- what the masks tell, as far as a search asks
pub record Telling (k : List ℕ) (p : ℕ) (w : List ℕ) (s : Weighed) (start : Placed)
    (by_sum by_set rows : List ℕ) : Type 0 where
  pub tells : (n sum set : ℕ) → 1 ≤ start.count + n → start.count + n ≤ 6 →
      start.sum + n * s.light ≤ sum → sum ≤ start.sum + n * s.heavy → set < 2 ^ s.end →
      ((r : ℕ) → r < 8 → in_set set r ≡ true → 0 < get_or w r 0) →
      met_by (get_or rows n 0) by_sum by_set sum set
      ≡ permission_holds k p (start.count + n) sum (bit_or start.roles set)
  pub nobody : start.count ≡ 0 → get_or rows 0 0 ≡ 0
  pub past : (n : ℕ) → 6 < start.count + n → get_or rows n 0 ≡ 0

-- the last row that isn't empty, or 0 where there may be none
pub record LastOrNone (rows : List ℕ) (last : ℕ) : Type 0 where
  pub within : last ≤ 6
  pub past : (n : ℕ) → last < n → n < 7 → get_or rows n 0 ≡ 0
  pub some : 0 < last → get_or rows last 0 ≡ 0 → ⊥

-- such is one that isn't empty
pub last_or_none : {rows : List ℕ} {last : ℕ} → IsLast rows last → LastOrNone rows last
last_or_none r = record { within = r.within; past = r.past; some = λ h. r.some }

-- nothing is found where the condition never holds
pub fewest_none : {sets w : List ℕ} {placed last : ℕ} {condition : ℕ → ℕ → ℕ → Bool} {bytes : List ℕ} →
    ((g : List Entry) → Rises sets w 0 g → length g ≤ last →
    condition (length g) (placed + entries_sum w g) (entries_roles g) ≡ false) →
    Answered sets w placed condition last 7 bytes
fewest_none {sets} {w} {placed} {last} {condition} none = record {
  group = [];
  sought = record {
    few = omega arith;
    within = λ h. absurd (omega arith);
    many = λ h. absurd (omega arith);
    meets = λ h. absurd (omega arith);
    least = λ g l m. clash (condition (length g) (placed + entries_sum w g) (entries_roles g)) m.met
        (none g m.rises l);
  };
  shown = λ h. absurd (omega arith);
}

module _ {k : List ℕ} {p : ℕ} {w : List ℕ} {s : Weighed} {start : Placed} {by_sum by_set rows : List ℕ}
    (told : Telling k p w s start by_sum by_set rows) (weighed : WeighedBelow w 8 s) where
  empty_row : (n sum set : ℕ) → get_or rows n 0 ≡ 0 → by_masks rows by_sum by_set n sum set ≡ false
  empty_row n sum set e = rw e refl

  -- of at most six entries in all the masks tell whether the condition holds
  same_test : (sets : List ℕ) (g : List Entry) → Rises sets w 0 g → start.count + length g ≤ 6 →
      by_masks rows by_sum by_set (length g) (start.sum + entries_sum w g) (entries_roles g)
      ≡ holds_with k p start (length g) (start.sum + entries_sum w g) (entries_roles g)
  same_test sets g rises six = ⊎_elim none some (met_or_not (eqb (start.count + length g) 0))
    where
      n : ℕ
      n = length g

      sum : ℕ
      sum = start.sum + entries_sum w g

      none : eqb (start.count + length g) 0 ≡ true →
          by_masks rows by_sum by_set n sum (entries_roles g) ≡ holds_with k p start n sum (entries_roles g)
      none h =
          let z : start.count + length g ≡ 0 = eqb-true _ _ h in
          let a : start.count ≡ 0 = omega arith in
          let b : length g ≡ 0 = omega arith in
          let row : get_or rows (length g) 0 ≡ 0 = rw b (told.nobody a) in
          empty_row (length g) sum (entries_roles g) row ∙ rw z refl

      some : eqb (start.count + length g) 0 ≡ false →
          by_masks rows by_sum by_set n sum (entries_roles g) ≡ holds_with k p start n sum (entries_roles g)
      some h =
          let ne = eqb-false (start.count + length g) 0 h in
          let one : 1 ≤ start.count + length g = omega (arith, ne) in
          let low = sum_least sets weighed 0 g rises in
          let high = sum_most sets weighed 0 g rises in
          told.tells n sum (entries_roles g) one six (omega (arith, low)) (omega (arith, high))
          (roles_low sets weighed 0 g rises) (λ r l i. roles_heavy sets weighed 0 g rises r i)
          ∙ rw (lt-ltb 0 (start.count + length g) one) refl

  -- nothing is found where all rows are empty
  pub no_row : {sets bytes : List ℕ} → start.count ≤ 6 → ((n : ℕ) → n < 7 → get_or rows n 0 ≡ 0) →
      Answered sets w start.sum (holds_with k p start) (6 - start.count) 7 bytes
  no_row few empty = fewest_none
      (λ g rises l. sym (same_test _ g rises (omega arith)) ∙ empty_row (length g) _ _ (empty (length g) (omega arith)))

  module _ {sets : List ℕ} {last n : ℕ} {bytes : List ℕ} (few : start.count ≤ 6) (is_last : LastOrNone rows last)
      (a : Answered sets w start.sum (by_masks rows by_sum by_set) last n bytes) where
    -- a group of so many entries is no larger than six
    six : (g : List Entry) → length g ≡ n → Meets sets w start.sum (by_masks rows by_sum by_set n) g →
        start.count + n ≤ 6
    six g many m = ⊎_elim
        (λ h. leb-true _ _ h)
        (λ h.
        let row = told.past n (leb-false _ _ h) in
        clash (by_masks rows by_sum by_set n (start.sum + entries_sum w g) (entries_roles g)) m.met
        (empty_row n _ _ row))
        (met_or_not (leb (start.count + n) 6))

    found : (g : List Entry) → length g ≡ n → Meets sets w start.sum (by_masks rows by_sum by_set n) g →
        Meets sets w start.sum (holds_with k p start n) g
    found g many m = record {
      rises = m.rises;
      met =
          let low = six g many m in
          let same = same_test sets g m.rises (rw many low) in
          sym (rw many at same) ∙ m.met;
    }

    least : (h : List Entry) → length h ≤ 6 - start.count →
        Meets sets w start.sum (holds_with k p start (length h)) h → n ≤ length h
    least h l m =
        let same = same_test sets h m.rises (omega arith) in
        let met : by_masks rows by_sum by_set (length h) (start.sum + entries_sum w h) (entries_roles h) ≡ true =
        same ∙ m.met in
        ⊎_elim
        (λ t. a.sought.least h (leb-true (length h) last t) (record { rises = m.rises; met = met }))
        (λ t.
        let row = is_last.past (length h) (leb-false (length h) last t) (omega arith) in
        clash (by_masks rows by_sum by_set (length h) (start.sum + entries_sum w h) (entries_roles h)) met
        (empty_row (length h) _ _ row))
        (met_or_not (leb (length h) last))

    pub fewest_is : Answered sets w start.sum (holds_with k p start) (6 - start.count) n bytes
    fewest_is = record {
      group = a.group;
      sought = record {
        few = a.sought.few;
        within = λ h. let l = six a.group (a.sought.many h) (a.sought.meets h) in omega arith;
        many = a.sought.many;
        meets = λ h. found a.group (a.sought.many h) (a.sought.meets h);
        least = least;
      };
      shown = a.shown;
    }
