-- The rows: what the clauses of a number of entries are.
use Prim.Native.Nat.{ℕ, ◌+◌, ◌-◌, ◌*◌, ◌<◌, ◌≤◌}
use mathlib.Core.Bool.{◌&&◌, or-true}
use mathlib.Core.Path.{◌≡◌, refl, sym, ap, ◌∙◌}
use mathlib.Core.Logic.{⊎_elim}
use mathlib.Core.List.{List, ◌++◌}
use native.Mathlib.Nat.{le_trans, mul-le-mul_left, mul-le-mul_right}
use native.Mathlib.Numerals.{add-one}
use native.Mathlib.Omega.{arith}
use borrow.Author.Tests.{eqb-true, eqb-false}
use lib.Bits.{bit_and, bit_or}
use lib.Dec.{eqb}
use lib.ListN.{length, get_or, take, drop, replicate}
use Rattle.folds.specs.Sets.{in_set}
use Rattle.folds.proofs.Bools.{met_or_not, clash, and_left, and_both}
use Rattle.folds.proofs.Folds.{fold_steps}
use Rattle.folds.proofs.Lists.{zero_at}
use Rattle.folds.proofs.Parts.{before_end, from_end}
use Rattle.folds.proofs.Sets.{in_and, in_or, in_none}
use Rattle.std.specs.List.{fold}
use Rattle.std.proofs.lemmas.List.{length-take, get_or-take, get_or-drop}
use Rattle.std.proofs.Common.{length-drop}
use Rattle.masks.specs.Rows.{Joined, RowFor, Rows}

-- at first no mask is joined
pub joined_none : (from : ℕ) {masks : List ℕ} → Joined from from masks 0
joined_none from = record { has = λ q b l m h. absurd (omega arith) }

-- one mask more
pub joined_next : {from q all : ℕ} {masks : List ℕ} → Joined from q masks all
    → Joined from (q + 1) masks (bit_or all (get_or masks q 0))
joined_next {from} {q} {all} {masks} j = record {
  has = λ p b l m h. ⊎_elim
      (λ t. let e : p ≡ q = eqb-true p q t in in_or all (get_or masks q 0) b ∙ rw (← e, h) (or-true (in_set all b)))
      (λ t. let d = eqb-false p q t in in_or all (get_or masks q 0) b ∙ rw (j.has p b l (omega (arith, d)) h))
      (met_or_not (eqb p q));
}

-- all
pub joined_all : (masks : List ℕ) {all : ℕ} → all ≡ fold (λ all mask. bit_or all mask) 0 masks
    → Joined 0 (length masks) masks all
joined_all masks e =
    rw e (fold_steps (λ q all. Joined 0 q masks all) (λ all mask. bit_or all mask) 0 masks 0 (joined_none 0)
    (λ q all l j. rw add-one at (joined_next j)))

-- those of a part of a list
pub joined_front : (masks : List ℕ) {end all : ℕ} → end ≤ length masks
    → Joined 0 (length (take end masks)) (take end masks) all → Joined 0 end masks all
joined_front masks {end} h j =
    let size = length-take end masks in
    record {
      has = λ q b l m i. j.has q b l (omega arith) (ap (λ x. in_set x b) (get_or-take end masks q 0 m) ∙ i);
    }

pub joined_part : {masks : List ℕ} {from end all : ℕ} → end ≤ length masks → from ≤ end
    → Joined 0 (length (take (end - from) (drop from masks))) (take (end - from) (drop from masks)) all
    → Joined from end masks all
joined_part {masks} {from} {end} h le j =
    let size = length-take (end - from) (drop from masks) in
    let left = length-drop from masks in
    record {
      has = λ q b l m i.
          let s : from + (q - from) ≡ q = omega arith in
          let e = get_or-take (end - from) (drop from masks) (q - from) 0 (omega arith)
          ∙ get_or-drop from masks (q - from) 0 ∙ ap (λ x. get_or masks x 0) s in
          j.has (q - from) b (omega arith) (omega arith) (ap (λ x. in_set x b) e ∙ i);
    }

-- no row for no entry
pub row_none : {entries : List ℕ} {number reached : ℕ} {sums : List ℕ} {from end : ℕ} → number ≡ 0
    → RowFor entries number reached sums from end 0
row_none {number = number} e = record {
  none = λ h. refl;
  low = λ b h. clash (in_set 0 b) h (in_none b);
  high = λ l s b m n. absurd (omega arith);
}

-- the row of a number of entries
pub row_some : {entries : List ℕ} {number reached : ℕ} {sums : List ℕ} {from end all : ℕ} → (number ≡ 0 → ⊥)
    → Joined from end sums all
    → RowFor entries number reached sums from end (bit_and (bit_and (get_or entries number 0) reached) all)
row_some {entries} {number} {reached} {all = all} d j = record {
  none = λ e. absurd (d e);
  low = λ b h. and_left (in_set (get_or entries number 0) b) _
      (and_left (in_set (get_or entries number 0) b && in_set reached b) _ (sym (within b) ∙ h));
  high = λ l s b m n e r h. within b ∙ and_both (and_both e r) (j.has s b m n h);
}
  where
    within : (b : ℕ) → in_set (bit_and (bit_and (get_or entries number 0) reached) all) b
        ≡ ((in_set (get_or entries number 0) b && in_set reached b) && in_set all b)
    within b = in_and (bit_and (get_or entries number 0) reached) all b
        ∙ rw (in_and (get_or entries number 0) reached b)

-- the sums of n entries more are among the masks
pub record Within (n count sum light heavy size : ℕ) : Type 0 where
  pub number : count + n ≤ 6
  pub low : n * light ≤ n * heavy
  pub high : sum + n * heavy + 1 ≤ size

-- no row is made yet
abbrev zeros : List ℕ
zeros = replicate 7 0

-- there are rows up to six entries
rows_size : (count : ℕ) → length (take (7 - count) zeros) ≡ 7 - count
rows_size count = let e = length-take (7 - count) zeros in omega arith

module _ {count sum light heavy : ℕ} (few : count ≤ 6) where
  pub sums_within : (n size : ℕ) → n < length (take (7 - count) zeros) → light ≤ heavy
      → sum + (6 - count) * heavy + 1 ≤ size → Within n count sum light heavy size
  sums_within n size l h within =
      let e = rows_size count in
      let most : n * heavy ≤ (6 - count) * heavy = mul-le-mul_right heavy (omega arith) in
      record { number = omega arith; low = mul-le-mul_left n h; high = le_trans (omega arith) within }

  -- those of more are 0
  pub rows_all : {entries : List ℕ} {reached n : ℕ} {sums : List ℕ} (made : List ℕ)
      → length made ≡ length (take (7 - count) zeros) → length (take (7 - count) zeros) ≤ n
      → ((m : ℕ) → m < n → RowFor entries (count + m) reached sums (sum + m * light) (sum + m * heavy + 1)
      (get_or made m 0))
      → Rows entries count sum light heavy reached sums (made ++ drop (7 - count) zeros)
  rows_all made long l each =
      let size = long ∙ rows_size count in
      record {
        each = λ n h. rw (before_end zeros made (7 - count) n size (omega arith)) (each n (omega arith));
        past = λ n h. from_end zeros made (7 - count) n size (omega arith) ∙ zero_at 7 n;
      }
