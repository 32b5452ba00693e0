-- Tables that know the ends of no role: the one multiset of no role ends at 0, all others are not reached.
use Rattle.std.proofs.Common.{ℕ, suc, ◌+◌, ◌*◌, ◌<◌, ◌≤◌, ◌≡◌, List, ◌++◌, length, get_or, replicate, drop, arith}
use mathlib.Core.Logic.{⊎_elim}
use lib.Dec.{leb, ltb}
use lib.ListN.{set}
use borrow.Author.Tests.{leb-true, leb-false, ltb-true, ltb-false}
use Rattle.std.proofs.lemmas.List.{get_or-replicate, length-replicate}
use Rattle.folds.proofs.Bools.{met_or_not}
use Rattle.folds.proofs.Parts.{each_place, length_end}
use Rattle.multisets.specs.Ranks.{first, more}
use Rattle.multisets.specs.Ends.{NextTable, Came, Filled}
use Rattle.multisets.specs.Levels.{Shaped}
use Rattle.multisets.specs.Laid.{Laid}
use Rattle.multisets.proofs.Places.{first_0, first_1, first_le, place_lt, grows_lt}
use Rattle.multisets.proofs.Filling.{filled_none}

-- there is room for the empty multiset
pub one_room : (d : ℕ) → 0 < first d 7
one_room d = omega (arith, first_1 d, first_le d 1 7 (omega arith))

-- behind the empty multiset there are no ends
pub record Blank (d : ℕ) (ends : List ℕ) : Type 0 where
  pub room : first d 7 ≤ length ends
  pub none : (x : ℕ) → 0 < x → x < first d 7 → 255 ≤ get_or ends x 0

pub begun : {d shaped : ℕ} {nexts t ends from roles sums : List ℕ} → d ≤ 8 → NextTable nexts →
    Shaped d shaped t roles → Blank d ends → first d 7 ≤ length from → first d 7 ≤ length sums →
    Laid d 0 shaped nexts t (set ends 0 0) from roles sums
begun {d} {nexts = nexts} {ends = ends} {from = from} most table shape blank places room = record {
  most = most;
  table = table;
  within = omega arith;
  shape = shape;
  filled = rw (first_0 d) (filled_none d nexts ends from blank.room places blank.none);
  room = room;
}

pub blank_all : (d : ℕ) {places : ℕ} → first d 7 ≤ places → Blank d (replicate places 255)
blank_all d {places} room = record {
  room = rw (length-replicate {A = ℕ} places 255) room;
  none = λ x pos l. rw (get_or-replicate {A = ℕ} places x 255 0 (omega arith)) (omega arith);
}

-- where the ends up to level k are known, those behind it are none
module _ {d k : ℕ} {nexts ends from : List ℕ} (most : d ≤ 8) (few : k ≤ 6)
    (f : Filled d nexts (8 * first d k) ends from) where
  not_reached : (x : ℕ) → first d (suc k) ≤ x → x < first d 7 → 255 ≤ get_or ends x 0
  not_reached x past l =
      ⊎_elim
      (λ t. absurd (early (f.came x (omega (arith, first_1 d, first_le d 1 (suc k) (omega arith))) l (ltb-true _ _ t))))
      (λ t. ltb-false _ _ t)
      (met_or_not (ltb (get_or ends x 0) 255))
    where
      -- what leads there stands in a level before
      early : {c : ℕ} → Came d nexts (8 * first d k) ends x c → ⊥
      early {c} w =
          let is = w.grows.is in
          let before = w.early in
          let there = place_lt d (suc w.n) (more w.n w.m w.q) (grows_lt d w.n w.m w.q c most w.grows) in
          let is_x = w.there in
          ⊎_elim
          (λ t. omega (arith, first_le d k w.n (leb-true k w.n t)))
          (λ t. omega (arith, there, first_le d (suc (suc w.n)) (suc k) (omega (arith, leb-false k w.n t))))
          (met_or_not (leb k w.n))

  -- so it is enough to clear the others
  pub blank_known : {past : ℕ} → past ≡ first d (k + 1) → Blank d (replicate past 255 ++ drop past ends)
  blank_known {past} is = record {
    room = rw (length_end ends (replicate past 255) past (length-replicate past 255) fits) f.room;
    none = λ x pos l. each_place ends (replicate past 255) past x (λ v. 255 ≤ v) (length-replicate past 255)
        (λ h. rw (get_or-replicate {A = ℕ} past x 255 0 h) (omega arith))
        (λ h. let one : k + 1 ≡ suc k = omega arith in not_reached x (rw (is, one) at h) l);
  }
    where
      fits : past ≤ length ends
      fits = omega (arith, is, f.room, first_le d (k + 1) 7 (omega arith))
