-- Chains over the numbers below n, against the folds of `specs/Below`, and tests over a list.
use Prim.Native.Nat.{ℕ, zero, suc, ◌+◌, ◌<◌, ◌≤◌}
use mathlib.Core.Bool.{Bool, true, false, ◌&&◌, ◌||◌, not, cond, or-false, and-true}
use mathlib.Core.List.{List, [], ◌∷◌, ◌++◌, map, map-id}
use mathlib.Core.Logic.{⊎_elim}
use mathlib.Core.Path.{◌≡◌, refl, ap, subst, sym, ◌∙◌}
use native.Mathlib.Nat.{add-zero}
use native.Mathlib.Numerals.{add-one}
use native.Mathlib.Omega.{arith}
use borrow.Author.Tests.{eqb-true}
use denote.Param.Members.{Mut}
use lib.Dec.{eqb}
use lib.ListN.{length, get_or, take}
use Rattle.std.specs.Bool.{⊤}
use Rattle.std.specs.Fn.{Called}
use Rattle.std.specs.Iterator.{AlwaysYields, Yields, ChecksAny, ChecksAll, Drains}
use Rattle.std.specs.Option.{MatchOption}
use Rattle.std.specs.declared.option.Option.{Option}
use Rattle.std.specs.declared.option.Option.TheVariants.{Some, None}
use Rattle.std.specs.Iterator.Adapters.{map_source, map_callee}
use Rattle.std.specs.Iterator.Runs.{EachRunFrom}
use Rattle.std.specs.declared.iter.Map.{Map}
use Rattle.std.specs.declared.ops.Range.{Range}
use Rattle.std.specs.List.{FoldsTo, list_any, list_all, fold, sum, filter, range_with_len}
use Rattle.std.proofs.iter.Yields.{nat_range_steps}
use Rattle.std.proofs.lemmas.Iterator.{YieldsList, maps, YieldsList-from_range, YieldsList-from_map}
use Rattle.std.proofs.lemmas.Iterator.Consumers.{sum_from_yields_List, fits_from_yields_list}
use Rattle.std.proofs.lemmas.Iterator.Search.{any_from_yields_List, all_from_yields_List}
use Rattle.std.proofs.lemmas.List.Folds.{list_any-append, list_all-append, list_any_more, list_any_at}
use Rattle.std.proofs.lemmas.List.FromFn.{get_or-map-range_with_len, length-map-range_with_len}
use Rattle.std.proofs.lemmas.List.FromFn.{map-range_with_len_more, sum_by-map-range_with_len_more}
use Rattle.std.proofs.lemmas.List.Sums.{length-filter, sum-map}
use Rattle.folds.specs.Below.{any_below, all_below, sum_below, count_below}
use Rattle.folds.proofs.Bools.{met_or_not, clash}

-- the last number stands behind the others
behind : (n : ℕ) → range_with_len 0 (suc n) ≡ range_with_len 0 n ++ n ∷ []
behind n = rw (add-one, map-id, map-id) at (map-range_with_len_more (λ x. x) 0 n n (omega arith))

module _ (p : ℕ → Bool) where
  pub any_chain : (n : ℕ) → list_any p (range_with_len 0 n) ≡ any_below n p
  unfolding any_below
  any_chain zero = refl
  any_chain (suc n) =
      ap (list_any p) (behind n) ∙ list_any-append p (range_with_len 0 n) (n ∷ []) ∙ rw (or-false, any_chain n)

  pub all_chain : (n : ℕ) → list_all p (range_with_len 0 n) ≡ all_below n p
  unfolding all_below
  all_chain zero = refl
  all_chain (suc n) =
      ap (list_all p) (behind n) ∙ list_all-append p (range_with_len 0 n) (n ∷ []) ∙ rw (and-true, all_chain n)

pub sum_chain : (f : ℕ → ℕ) (n : ℕ) → sum (map f (range_with_len 0 n)) ≡ sum_below n f
unfolding sum_below
sum_chain f zero = refl
sum_chain f (suc n) =
    rw add-one at (sum_by-map-range_with_len_more (λ x. x) f 0 n n (omega arith)) ∙ ap (λ s. s + f n) (sum_chain f n)

pub count_chain : (p : ℕ → Bool) (n : ℕ) → length (filter p (range_with_len 0 n)) ≡ count_below n p
unfolding count_below
count_chain p n =
    length-filter p (range_with_len 0 n) ∙ sym (sum-map (λ i. cond (p i) 1 0) (range_with_len 0 n))
    ∙ sum_chain (λ i. cond (p i) 1 0) n

-- what `any` and `all` answer over the numbers below n, by a closure that computes the test p
module _ {F : Type 0} {g : Mut F (ℕ × Unit {0}) Bool} {s : Range ℕ} (p : ℕ → Bool) (n : ℕ) (u : Range ℕ) (f : F)
    (r : Bool) (whole : s ≡ record { start = 0; end = n })
    (each : (x : ℕ) (b : Bool) (q : F) → Called g f (x, tt) b q → (q ≡ f) × (b ≡ p x)) where
  pub any_of_range : ChecksAny nat_range_steps g s f r u → r ≡ any_below n p
  any_of_range ran =
      any_from_yields_List p u f r ran (YieldsList-from_range 0 n n whole (omega arith)) each ∙ any_chain p n

  pub all_of_range : ChecksAll nat_range_steps g s f r u → r ≡ all_below n p
  all_of_range ran =
      all_from_yields_List p u f r ran (YieldsList-from_range 0 n n whole (omega arith)) each ∙ all_chain p n

-- what `all` answers over the items of a list, by a closure that answers p k at the item of place k
module _ {S A B F : Type 0} (steps : S → Option A → S → Type 0) {v : A → B} {g : Mut F (A × Unit {0}) Bool} {f : F}
    {r : Bool} {t u : S} (p : ℕ → Bool) where
  -- with i items before those of ys
  places_from : (i : ℕ) (ys : List B) (s : S) → AlwaysYields steps v s ys →
      ((k : ℕ) (x : A) (b : Bool) (q : F) → k < length ys → v x ≡ get_or ys k (v x) → Called g f (x, tt) b q →
      (q ≡ f) × (b ≡ p (i + k))) →
      (xs : List A) (o : Option A) (j : F) → Yields steps s xs t → steps t o u →
      FoldsTo (λ c x q. Called g c (x, tt) true q) f xs j →
      MatchOption o (r ≡ true) (λ x. (r ≡ false) × ((q : F) × Called g j (x, tt) false q)) →
      r ≡ list_all p (range_with_len i (length ys))
  places_from i [] s runs each [] None j came last ran told = told
  places_from i [] s runs each [] (Some x) j came last ran told =
      absurd (runs x u (subst (λ c. steps c (Some x) u) (sym came) last))
  places_from i [] s runs each (x ∷ xs) o j (c, step, came) last ran told = absurd (runs x c step)
  places_from i (z ∷ ys) s runs each [] None j came last ran told =
      absurd (runs.0 u (subst (λ c. steps c None u) (sym came) last))
  places_from i (z ∷ ys) s runs each [] (Some x) j came last ran (is, (q, called)) =
      let (at, more) = runs.1 x u (subst (λ c. steps c (Some x) u) (sym came) last) in
      let told = each 0 x false q (omega arith) at (subst (λ c. Called g c (x, tt) false q) (sym ran) called) in
      rw (is, ← add-zero i, ← told.1)
  places_from i (z ∷ ys) s runs each (x ∷ xs) o j (c, step, came) last (q, called, ran) told =
      let (at, more) = runs.1 x c step in
      let (same, holds) = each 0 x true q (omega arith) at called in
      places_from (i + 1) ys c more
      (λ k x b q l is call. let (kept, e) = each (suc k) x b q (omega arith) is call in (kept, e ∙ ap p (omega arith)))
      xs o j came last (subst (λ e. FoldsTo (λ c x q. Called g c (x, tt) true q) e xs j) same ran) told
      ∙ ap (λ b. b && list_all p (range_with_len (i + 1) (length ys))) (holds ∙ ap p (add-zero i))

-- and over the items h k that a closure makes of the numbers k below n
module _ {A F G : Type 0} {m : Mut F (ℕ × Unit {0}) A} {g : Mut G (A × Unit {0}) Bool} {maker : F} {test : G}
    {s u : Map (Range ℕ) F} {r : Bool} (h : ℕ → A) (p : ℕ → Bool) (n : ℕ) where
  pub all_of_mapped : ChecksAll (maps nat_range_steps m) g s test r u →
      map_source s ≡ record { start = 0; end = n } → map_callee s ≡ maker →
      ((x : ℕ) (y : A) (q : F) → Called m maker (x, tt) y q → (q ≡ maker) × (y ≡ h x)) →
      ((k : ℕ) (b : Bool) (q : G) → k < n → Called g test (h k, tt) b q → (q ≡ test) × (b ≡ p k)) → r ≡ all_below n p
  all_of_mapped (xs, o, j, (t, came, last), ran, told) whole callee makes answers =
      let road = YieldsList-from_map m h (YieldsList-from_range 0 n n whole (omega arith)) callee makes in
      let long = length-map-range_with_len h 0 n in
      places_from (maps nat_range_steps m) p 0 (map h (range_with_len 0 n)) s road.runs
      (λ k x b q l at call.
      let is = at ∙ get_or-map-range_with_len h 0 n k k x (omega (arith, l, long)) (omega arith) in
      let (same, e) = answers k b q (omega (arith, l, long)) (subst (λ y. Called g test (y, tt) b q) is call) in
      (same, e ∙ ap p (omega arith)))
      xs o j came last ran told
      ∙ ap (λ k. list_all p (range_with_len 0 k)) long ∙ all_chain p n

-- what `sum` answers over the numbers below n, each mapped by a closure that computes f, and that it fits
module _ {F : Type 0} {g : Mut F (ℕ × Unit {0}) ℕ} {k : F} {s : Map (Range ℕ) F} (f : ℕ → ℕ) (n : ℕ)
    (whole : map_source s ≡ record { start = 0; end = n }) (callee : map_callee s ≡ k)
    (each : (x r : ℕ) (q : F) → Called g k (x, tt) r q → (q ≡ k) × (r ≡ f x)) where
  road : YieldsList (maps nat_range_steps g) (λ r. r) s (map f (range_with_len 0 n))
  road = YieldsList-from_map g f (YieldsList-from_range 0 n n whole (omega arith)) callee each

  pub sum_of_range : {r : ℕ} →
      ((xs : List ℕ) × (⊤ → Drains (maps nat_range_steps g) s xs) × (r ≡ fold (λ a x. a + x) 0 xs)) →
      r ≡ sum_below n f
  sum_of_range ran = sum_from_yields_List s _ ran road ∙ sum_chain f n

  pub fits_of_range : (top : ℕ) → sum_below n f < top →
      EachRunFrom (maps nat_range_steps g) s (λ p. fold (λ a x. a + x) 0 p.items < top)
  fits_of_range top low = fits_from_yields_list s top road (rw (sum_chain f n) low)

-- a test over the front of a list, by its places
pub any_of_front : {A : Type 0} (p : A → Bool) (xs : List A) (d : A) (n : ℕ) → n ≤ length xs →
    list_any p (take n xs) ≡ any_below n (λ k. p (get_or xs k d))
unfolding any_below
any_of_front p xs d zero h = refl
any_of_front p xs d (suc n) h =
    rw add-one at (list_any_more p xs n d (omega arith))
    ∙ ap (λ t. t || p (get_or xs n d)) (any_of_front p xs d n (omega arith))

-- a list in which no element differs from x has x alone
pub none_other : (x : ℕ) (xs : List ℕ) {r : Bool} → r ≡ false → r ≡ list_any (λ y. not (eqb y x)) xs → (i : ℕ) →
    i < length xs → get_or xs i 0 ≡ x
none_other x xs f e i l =
    ⊎_elim (λ t. eqb-true (get_or xs i 0) x t)
    (λ t. clash (list_any (λ y. not (eqb y x)) xs) (list_any_at (λ y. not (eqb y x)) xs i 0 l (rw t)) (sym e ∙ f))
    (met_or_not (eqb (get_or xs i 0) x))
