-- Clauses struck out of masks, step by step.
use Prim.Native.Nat.{ℕ, ◌+◌, ◌-◌, ◌<◌, ◌≤◌, min}
use mathlib.Core.Bool.{Bool, true, false, ◌&&◌, ◌||◌, not, cond, and-true, or-true, or-false, and_assoc}
use mathlib.Core.Path.{◌≡◌, refl, sym, ap, ◌∙◌}
use mathlib.Core.Logic.{⊎_elim}
use mathlib.Core.List.{List, ◌++◌, map}
use native.Mathlib.Nat.{lt_of_lt_of_le, min-eq_left, min-le_right}
use native.Mathlib.Omega.{arith}
use borrow.Author.Tests.{eq-eqb, ne_eqb, eqb-true, eqb-false, lt-ltb, le-ltb}
use borrow.Author.Tests.{lt-leb, le-leb, leb-true, leb-false, ltb-true, ltb-false}
use borrow.Rule.Slice.PartMut.{put_mid}
use lib.Bits.{bit_and}
use lib.Dec.{eqb, ltb, leb, leb-suc-zero}
use lib.ListN.{length, get_or, set, take, drop, length-set}
use lib.Seq.{get_or-set_same, get_or-set_other}
use Rattle.std.proofs.Common.{length-drop}
use Rattle.std.specs.List.{between}
use Rattle.std.proofs.lemmas.Slice.{between_to_end}
use Rattle.std.proofs.lemmas.List.{length-map, length-take, get_or-map, get_or-take, get_or-drop}
use Rattle.folds.specs.Sets.{in_set}
use Rattle.folds.proofs.Bools.{met_or_not}
use Rattle.folds.proofs.Changing.{Changed}
use Rattle.folds.proofs.Parts.{before_end, from_end, before_start, from_start, length_end, length_start}
use Rattle.folds.proofs.Sets.{in_and}
use Rattle.weights.specs.Operators.{RangeOf}
use Rattle.masks.specs.Clauses.{Cut, apart_from, within, stands_to, lacks, Struck}

module _ {count others : ℕ} where
  -- where each test holds nothing is struck out
  pub struck_none : {stays : ℕ → Bool} {was : List ℕ} → ((x : ℕ) → x < count → stays x ≡ true)
      → Struck count stays others was was
  struck_none h = record { size = refl; members = λ x b l. rw (h x l, and-true) }

  -- one mask
  pub struck_one : {was : List ℕ} (q : ℕ) → q < length was
      → Struck count (λ x. not (eqb x q)) others was (set was q (bit_and (get_or was q 0) others))
  struck_one {was} q l = record {
    size = length-set was q _;
    members = λ x b m. ⊎_elim
        (λ t. let e : x ≡ q = eqb-true x q t in
        rw (e, get_or-set_same was q (bit_and (get_or was q 0) others) 0 l, in_and, eq-eqb q q refl))
        (λ t. rw (get_or-set_other was q x (bit_and (get_or was q 0) others) 0 (eqb-false x q t), t, and-true))
        (met_or_not (eqb x q));
  }

  -- once and once more
  pub struck_both : {f g : ℕ → Bool} {was then now : List ℕ} → Struck count f others was then
      → Struck count g others then now → Struck count (λ x. f x && g x) others was now
  struck_both {f} {g} {was} s t = record {
    size = t.size ∙ s.size;
    members =
        λ x b l. t.members x b l ∙ rw (s.members x b l) (by (in_set (get_or was x 0) b) (f x) (g x) (in_set others b));
  }
    where
      by : (w f g o : Bool) → ((w && (f || o)) && (g || o)) ≡ (w && ((f && g) || o))
      by false f g o = refl
      by true true g o = refl
      by true false g true = or-true g
      by true false g false = refl

  -- tests that agree
  pub struck_as : {f g : ℕ → Bool} {was now : List ℕ} → Struck count f others was now
      → ((x : ℕ) → x < count → f x ≡ g x) → Struck count g others was now
  struck_as s h = record { size = s.size; members = λ x b l. rw (← h x l) (s.members x b l) }

  -- fewer masks
  pub struck_fewer : {more : ℕ} {f : ℕ → Bool} {was now : List ℕ} → count ≤ more → Struck more f others was now
      → Struck count f others was now
  struck_fewer h s = record { size = s.size; members = λ x b l. s.members x b (lt_of_lt_of_le l h) }

-- the masks before `low`, and those from `end` on
module _ {others : ℕ} {was part : List ℕ} where
  struck_front : {low : ℕ} → low ≤ length was → part ≡ map (λ mask. bit_and mask others) (take low was)
      → Struck (length was) (apart_from 0 low) others was (part ++ drop low was)
  unfolding apart_from
  struck_front {low} h e =
      let long : length part ≡ low = rw (e, length-map, length-take) (min-eq_left h) in
      record {
        size = length_end was part low long h;
        members = λ x b l. ⊎_elim
            (λ t. let m = ltb-true x low t in
            ap (λ y. in_set y b) (before_end was part low x long m ∙ ap (λ ys. get_or ys x 0) e
            ∙ get_or-map (λ mask. bit_and mask others) (take low was) x 0 0 (rw (length-take, min-eq_left h) m)
            ∙ ap (λ y. bit_and y others) (get_or-take low was x 0 m))
            ∙ in_and (get_or was x 0) others b ∙ rw (leb-suc-zero x, lt-leb low x m))
            (λ t. let m = ltb-false x low t in
            ap (λ y. in_set y b) (from_end was part low x long m)
            ∙ rw (leb-suc-zero x, le-leb low x m) (sym (and-true (in_set (get_or was x 0) b))))
            (met_or_not (ltb x low));
      }

  struck_back : {end count : ℕ} → length was ≡ count → end ≤ count
      → part ≡ map (λ mask. bit_and mask others) (drop end was)
      → Struck count (apart_from end count) others was (put_mid end (length was - end) was part)
  unfolding apart_from
  struck_back {end} {count} c h e =
      let long : length part ≡ length was - end = rw (e, length-map, length-drop) refl in
      record {
        size = length_start was part end (omega arith) long;
        members = λ x b l. ⊎_elim
            (λ t. let m = ltb-true x end t in
            ap (λ y. in_set y b) (before_start was part end x (omega arith) m)
            ∙ rw t (sym (and-true (in_set (get_or was x 0) b))))
            (λ t. let m = ltb-false x end t in
            let s : end + (x - end) ≡ x = omega arith in
            ap (λ y. in_set y b) (from_start was part end x long m (omega arith) ∙ ap (λ ys. get_or ys (x - end) 0) e
            ∙ get_or-map (λ mask. bit_and mask others) (drop end was) (x - end) 0 0 (rw length-drop (omega arith))
            ∙ ap (λ y. bit_and y others) (get_or-drop end was (x - end) 0 ∙ ap (λ q. get_or was q 0) s))
            ∙ in_and (get_or was x 0) others b ∙ rw (t, lt-leb count x l))
            (met_or_not (ltb x end));
      }

-- a bound cut at `count`
cut : {count bound m : ℕ} → m ≡ min bound count → Cut count bound m
cut {count} {bound} {m} e = record {
  at_most = rw e (min-le_right bound count);
  same = λ x l. rw e (by x l);
}
  where
    by : (x : ℕ) → x < count → leb (min bound count) x ≡ leb bound x
    by x l = ⊎_elim
        (λ t. let h = leb-true bound x t in rw t (le-leb (min bound count) x (omega arith)))
        (λ t. let h = leb-false bound x t in rw t (lt-leb (min bound count) x (omega arith)))
        (met_or_not (leb bound x))

-- below is not from there on
below_not : (x e : ℕ) → ltb x e ≡ not (leb e x)
below_not x e =
    ⊎_elim (λ t. le-ltb x e (leb-true e x t) ∙ rw t) (λ t. lt-ltb x e (leb-false e x t) ∙ rw t) (met_or_not (leb e x))

-- what is struck out before `low` and from `end` on, both cut at `count`
module _ {count low end low' end' : ℕ} (lo : Cut count low low') (hi : Cut count end end') where
  in_range : (x : ℕ) → x < count → (apart_from 0 low' x && apart_from end' count x) ≡ within low end x
  unfolding apart_from within
  in_range x l =
      let below : ltb x end' ≡ ltb x end = below_not x end' ∙ rw (hi.same x l) (sym (below_not x end)) in
      rw (leb-suc-zero x, lo.same x l, lt-leb count x l, below, or-false)

-- the list with its front struck, and then its end
pub struck_sides : (others low end : ℕ) (was front back : List ℕ) {low' end' : ℕ} → low' ≡ min low (length was)
    → end' ≡ min end (length was) → front ≡ map (λ mask. bit_and mask others) (take low' was)
    → back ≡ map (λ mask. bit_and mask others) (between end' (length (front ++ drop low' was)) (front ++ drop low' was))
    → Struck (length was) (within low end) others was
    (put_mid end' (length (front ++ drop low' was) - end') (front ++ drop low' was) back)
struck_sides others low end was front back {low'} {end'} lo hi f b =
    let first = struck_front (cut lo).at_most f in
    let then = front ++ drop low' was in
    let all = between_to_end then end' (length then) (omega arith) in
    struck_as (struck_both first (struck_back first.size (cut hi).at_most (rw all at b))) (in_range (cut lo) (cut hi))

-- and at the gap
module _ {o v low end but count others : ℕ} {was after : List ℕ} (range : RangeOf o v low end but) (known : o ≤ 5)
    (few : count ≤ 256) (s : Struck count (within low end) others was after) where
  at_gap : (x : ℕ) → x < count → (within low end x && not (eqb x but)) ≡ stands_to o v x
  unfolding within stands_to
  at_gap x l =
      rw (range.met known x (lt_of_lt_of_le l few)) (and_assoc (leb low x) (ltb x end) (not (eqb x but)))

  pub struck_gap : but < length after
      → Struck count (stands_to o v) others was (set after but (bit_and (get_or after but 0) others))
  struck_gap l = struck_as (struck_both s (struck_one but l)) at_gap

  pub struck_whole : count ≤ but → Struck count (stands_to o v) others was after
  struck_whole l = struck_as (struck_both s (struck_none (λ x m. rw (ne_eqb x but (λ e. omega arith))))) at_gap

-- the roles' masks, each changed where the value has its role
pub struck_roles : (v : ℕ) {others : ℕ} {was masks : List ℕ} → length was ≡ 8
    → Changed (λ r mask. cond (in_set v r) (bit_and mask others) mask) 8 was masks → Struck 8 (lacks v) others was masks
unfolding lacks
struck_roles v {others} {was} {masks} e c = record {
  size = c.size;
  members = λ r b l. ap (λ y. in_set y b) (c.done r l) ∙ by (in_set v r) (get_or was r 0) b;
}
  where
    by : (t : Bool) (mask b : ℕ)
        → in_set (cond t (bit_and mask others) mask) b ≡ (in_set mask b && (not t || in_set others b))
    by true mask b = in_and mask others b
    by false mask b = sym (and-true (in_set mask b))
