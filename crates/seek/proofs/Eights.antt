-- Eight places at a time: where the clauses of all together miss the row, each misses it.
use Prim.Native.Nat.{ℕ, zero, suc, ◌+◌, ◌-◌, ◌*◌, ◌/◌, ◌^◌, ◌<◌, ◌≤◌}
use mathlib.Core.Bool.{Bool, true, false, ◌&&◌, or-true}
use mathlib.Core.Path.{◌≡◌, refl, sym, ap, subst, ◌∙◌}
use mathlib.Core.Logic.{inl, inr, ⊎_elim}
use mathlib.Core.List.{List, [], ◌∷◌}
use native.Mathlib.Omega.{arith}
use native.Mathlib.Nat.{lt_of_lt_of_le, lt_irrefl}
use borrow.Author.Tests.{ne_eqb, eqb-false, leb-true, leb-false}
use lib.Bits.{bit_and, bit_or}
use lib.Dec.{eqb, leb, lit<}
use lib.ListN.{length, get_or, take, drop}
use denote.Param.Members.{Mut}
use Rattle.std.specs.declared.option.Option.{Option}
use Rattle.std.specs.declared.option.Option.TheVariants.{Some, None}
use Rattle.std.specs.Fn.{Called, Takes}
use Rattle.std.specs.Iterator.{CallableAtEachTurn, FoldTurn}
use Rattle.std.specs.List.{fold, zip}
use Rattle.std.proofs.lemmas.Fn.{serves_by}
use Rattle.std.proofs.lemmas.Grind.{get_or_default_zero}
use Rattle.std.proofs.lemmas.Iterator.{YieldsList}
use Rattle.std.proofs.lemmas.Iterator.Consumers.{YieldsList-turn}
use Rattle.std.proofs.lemmas.Slice.Zip.{length-zip, get_or-zip}
use Rattle.std.proofs.lemmas.List.{length-take, length-drop, get_or-take, get_or-drop}
use lib.Pow.{pow_mono}
use Rattle.folds.specs.Sets.{in_set}
use Rattle.folds.specs.Below.{any_below}
use Rattle.folds.proofs.Bools.{met_or_not, clash, and_left, and_right, and_both}
use Rattle.folds.proofs.Tests.{any_some}
use Rattle.folds.proofs.Sets.{in_and, in_or, in_none, meet_some}
use Rattle.seek.specs.Search.{Tables, met_beside, met_at, SomeMet, FoundIn, FoundAt}

below_power : (n : ℕ) → n < 2 ^ n
below_power zero = lit< tt
below_power (suc n) = omega (arith, below_power n)

-- two sets whose meet isn't empty have a number in common
common : (x y : ℕ) → (bit_and x y ≡ 0 → ⊥) → (b : ℕ) × (in_set x b ≡ true) × (in_set y b ≡ true)
common x y ne =
    let n = x + y in
    let a : x < 2 ^ n = lt_of_lt_of_le (below_power x) (pow_mono (omega arith)) in
    let c : y < 2 ^ n = lt_of_lt_of_le (below_power y) (pow_mono (omega arith)) in
    let some : any_below n (λ r. in_set x r && in_set y r) ≡ true =
    sym (meet_some n x y a c) ∙ rw (ne_eqb (bit_and x y) 0 ne) refl in
    let (b, _, both) = any_some (λ r. in_set x r && in_set y r) n some in
    (b, and_left (in_set x b) (in_set y b) both, and_right (in_set x b) (in_set y b) both)

-- a fold that joins what each pair of a sum and a set meets
module _ (front : ℕ) (by_sum by_set : List ℕ) where
  abbrev pub joined : ℕ → ℕ × ℕ → ℕ
  joined all p = bit_or all (bit_and (get_or by_sum p.0 0) (get_or by_set (bit_or front p.1) 0))

  joined_stays : (ps : List (ℕ × ℕ)) (all b : ℕ) → in_set all b ≡ true → in_set (fold joined all ps) b ≡ true
  joined_stays [] all b h = h
  joined_stays (p ∷ ps) all b h = joined_stays ps (joined all p) b (in_or all _ b ∙ rw h refl)

  joined_each : (xs ys : List ℕ) (all i b : ℕ) → i < length xs → i < length ys →
      in_set (get_or by_sum (get_or xs i 0) 0) b ≡ true →
      in_set (get_or by_set (bit_or front (get_or ys i 0)) 0) b ≡ true →
      in_set (fold joined all (zip xs ys)) b ≡ true
  joined_each [] ys all i b l m g h = absurd (omega arith)
  joined_each (x ∷ xs) [] all i b l m g h = absurd (omega arith)
  joined_each (x ∷ xs) (y ∷ ys) all zero b l m g h =
      let set = bit_or front y in
      let both : in_set (bit_and (get_or by_sum x 0) (get_or by_set set 0)) b ≡ true =
      rw (in_and (get_or by_sum x 0) (get_or by_set set 0) b, g, h) refl in
      joined_stays (zip xs ys) (joined all (x, y)) b (in_or all _ b ∙ rw both (or-true (in_set all b)))
  joined_each (x ∷ xs) (y ∷ ys) all (suc i) b l m g h =
      joined_each xs ys (joined all (x, y)) i b (omega arith) (omega arith) g h

  -- of the n places from x on
  pub some_joined : (sums roles : List ℕ) (x n : ℕ) → x + n ≤ length sums → x + n ≤ length roles →
      SomeMet front sums roles by_sum by_set x n (fold joined 0 (zip (take n (drop x sums)) (take n (drop x roles))))
  some_joined sums roles x n s r = record {
    has = λ i b l g h.
        let summed : in_set (get_or by_sum (get_or (take n (drop x sums)) i 0) 0) b ≡ true = rw (there sums i l) g in
        let set : in_set (get_or by_set (bit_or front (get_or (take n (drop x roles)) i 0)) 0) b ≡ true =
        rw (there roles i l) h in
        joined_each (take n (drop x sums)) (take n (drop x roles)) 0 i b
        (long sums s i l) (long roles r i l) summed set;
  }
    where
      there : (xs : List ℕ) (i : ℕ) → i < n → get_or (take n (drop x xs)) i 0 ≡ get_or xs (x + i) 0
      there xs i l = get_or-take n (drop x xs) i 0 l ∙ get_or-drop x xs i 0

      long : (xs : List ℕ) → x + n ≤ length xs → (i : ℕ) → i < n → i < length (take n (drop x xs))
      long xs h i l = omega (arith, length-take n (drop x xs), length-drop x xs)

-- a fold by a closure that stays as it is may call it at each item of a list
module _ {S A B F C : Type 0} {steps : S → Option A → S → Type 0} {v : A → B} {s : S} {all : List B}
    {g : Mut F (C × (A × Unit {0})) C} {f : F} (road : YieldsList steps v s all) where
  pub fold_serves : {first : C} → ((a : C) (x : A) (b : C) (q : F) → Called g f (a, (x, tt)) b q → q ≡ f) →
      ((a : C) (x : A) (k : ℕ) → k < length all → v x ≡ get_or all k (v x) → Takes g f (a, (x, tt))) →
      CallableAtEachTurn {P = F × C} steps (FoldTurn g) (λ p x. Takes g p.0 (p.1, (x, tt))) s (f, first)
  fold_serves {first} stays may =
      serves_by (FoldTurn g) (λ _ p. p.0 ≡ f)
      (λ xs p x q e r. stays p.1 x q.1 q.0 (subst (λ h. Called g h (p.1, (x, tt)) q.1 q.0) e r))
      steps (λ p x. Takes g p.0 (p.1, (x, tt))) s (f, first) refl
      (λ xs t p x u y step e.
      let m = YieldsList-turn road xs t y (Some x) u x refl step in
      subst (λ h. Takes g h (p.1, (x, tt))) (sym e) (may p.1 x (length xs) m.0 m.1))

-- a sum paired with a set, of the n places from x on, has a mask
pub pair_masked : {x room : ℕ} (n : ℕ) {ends sums roles by_sum by_set : List ℕ} →
    Tables x room ends sums roles by_sum by_set → x + n ≤ room → (p : ℕ × ℕ) (k : ℕ) →
    k < length (zip (take n (drop x sums)) (take n (drop x roles))) →
    p ≡ get_or (zip (take n (drop x sums)) (take n (drop x roles))) k p → p.0 < length by_sum
pair_masked {x} n {sums = sums} {roles = roles} t within p k low is =
    let xs = take n (drop x sums) in
    let ys = take n (drop x roles) in
    let both = length-zip xs ys in
    let short = length-take n (drop x sums) in
    let in_sums : k < length xs = omega (arith, both) in
    let in_roles : k < length ys = omega (arith, both) in
    let here : k < n = omega (arith, short) in
    let pair = is ∙ get_or-zip xs ys k p in_sums in_roles in
    let there : get_or sums (x + k) p.0 ≡ p.0 =
    sym (ap (λ (q : ℕ × ℕ). q.0) pair ∙ get_or-take n (drop x sums) k p.0 here ∙ get_or-drop x sums k p.0) in
    let long : x + k < length sums = let r = t.sums_room in omega arith in
    let low = t.sum_masks (x + k) (omega arith) (omega arith) in
    rw (sym (get_or_default_zero sums (x + k) p.0 long) ∙ there) at low

module _ {front : ℕ} {sums roles by_sum by_set : List ℕ} {x : ℕ} where
  -- where they miss the row, no place meets it
  unmet : {all : ℕ} (row : ℕ) → SomeMet front sums roles by_sum by_set x 8 all → bit_and row all ≡ 0 → (i : ℕ) → i < 8 →
      met_beside front row by_sum by_set (get_or sums (x + i) 0) (get_or roles (x + i) 0) ≡ false
  unmet {all} row s z i l = ⊎_elim
      (λ t. rw t refl)
      (λ t. absurd (missed (eqb-false _ _ t)))
      (met_or_not (eqb (bit_and (bit_and row a) b) 0))
    where
      a : ℕ
      a = get_or by_sum (get_or sums (x + i) 0) 0

      b : ℕ
      b = get_or by_set (bit_or front (get_or roles (x + i) 0)) 0

      missed : (bit_and (bit_and row a) b ≡ 0 → ⊥) → ⊥
      missed ne =
          let (c, both, set) = common (bit_and row a) b ne in
          let pair : (in_set row c && in_set a c) ≡ true = sym (in_and row a c) ∙ both in
          let there = s.has i c l (and_right (in_set row c) (in_set a c) pair) set in
          let here : in_set (bit_and row all) c ≡ true =
          in_and row all c ∙ and_both (and_left (in_set row c) (in_set a c) pair) there in
          clash (in_set (bit_and row all) c) here (ap (λ (m : ℕ). in_set m c) z ∙ in_none c)

  pub eight_missed : (ends : List ℕ) {all : ℕ} (row : ℕ) → SomeMet front sums roles by_sum by_set x 8 all →
      bit_and row all ≡ 0 →
      FoundIn (met_at ends sums roles (met_beside front row by_sum by_set)) x (x + 8) 3003
  eight_missed ends row s z = record {
    at_most = omega arith;
    low = λ h. absurd (lt_irrefl 3003 h);
    high = λ h. absurd (lt_irrefl 3003 h);
    met = λ h. absurd (lt_irrefl 3003 h);
    none = λ e y low high.
        let i : ℕ = y - x in
        let at : x + i ≡ y = omega arith in
        rw (rw at at (unmet row s z i (omega arith))) refl;
  }

-- a stretch behind one in which nothing was found
module _ {test : ℕ → Bool} {from x : ℕ} (none : (y : ℕ) → from ≤ y → y < x → test y ≡ false) where
  pub none_past : {end found : ℕ} → FoundIn test x end found → 3003 ≤ found → (y : ℕ) → from ≤ y → y < end →
      test y ≡ false
  none_past f past y low high = ⊎_elim
      (λ t. none y low (leb-false x y t))
      (λ t. f.none (let m = f.at_most in omega arith) y (leb-true x y t) high)
      (⊎_elim (λ t. inr t) (λ t. inl t) (met_or_not (leb x y)))

  pub found_past : {end found : ℕ} → from ≤ x → FoundIn test x end found → FoundIn test from end found
  found_past {end} {found} l f = record {
    at_most = f.at_most;
    low = λ h. let m = f.low h in omega arith;
    high = f.high;
    met = f.met;
    none = λ e. none_past f (omega arith);
  }

  pub found_within : {end last found : ℕ} → from ≤ x → end ≤ last → found < 3003 → FoundIn test x end found →
      FoundIn test from last found
  found_within l wide some f = record {
    at_most = f.at_most;
    low = λ h. let m = f.low h in omega arith;
    high = λ h. let m = f.high h in omega arith;
    met = f.met;
    none = λ e. absurd (omega arith);
  }

-- a stretch behind eights in each of which nothing was found
module _ {test : ℕ → Bool} {from n : ℕ}
    (none : (i : ℕ) → i < n → FoundAt test (from + 8 * i) (from + 8 * i + 8) None) where
  past_eights : (y : ℕ) → from ≤ y → y < from + 8 * n → test y ≡ false
  past_eights y low high =
      let i : ℕ = (y - from) / 8 in
      (none i (omega arith)).found.none refl y (omega arith) (omega arith)

  pub found_behind : {end : ℕ} {o : Option ℕ} → FoundAt test (from + 8 * n) end o → FoundAt test from end o
  found_behind f = record { found = found_past past_eights (omega arith) f.found; some = f.some }
