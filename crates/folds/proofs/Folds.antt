-- A `fold`, turn by turn: over the numbers below n, over the items of a list, and what it gathers into a set.
use Prim.Native.Nat.{ℕ, zero, suc, ◌+◌, ◌-◌, ◌^◌, ◌<◌, ◌≤◌}
use mathlib.Core.Bool.{Bool, true, false, ◌&&◌, cond, or-false}
use mathlib.Core.List.{List, [], ◌∷◌, map-id}
use mathlib.Core.Path.{◌≡◌, refl, sym, ap, subst, ◌∙◌}
use native.Mathlib.Nat.{add-zero}
use native.Mathlib.Omega.{arith}
use denote.Param.Members.{Mut}
use denote.Ref.{Bor}
use lib.Bits.{bit_or, or_zero_r}
use lib.Dec.{eqb, ltb}
use lib.ListN.{length, get_or}
use Rattle.std.specs.Fn.{Called, CalledAt, Takes}
use Rattle.std.specs.Iterator.{Yields, CallableAtEachTurn, FoldTurn, FoldsItems}
use Rattle.std.specs.Iterator.Adapters.{filter_source, filter_callee, filter_steps}
use Rattle.std.specs.List.{FoldsTo, fold, filter, range_with_len}
use Rattle.std.specs.declared.iter.Filter.{Filter}
use Rattle.std.specs.declared.ops.Range.{Range}
use Rattle.std.specs.declared.option.Option.TheVariants.{Some}
use Rattle.std.proofs.iter.Yields.{nat_range_steps, gives_Drains}
use Rattle.std.proofs.lemmas.Fn.{serves_by}
use Rattle.std.proofs.lemmas.Iterator.{YieldsList-from_range}
use Rattle.std.proofs.lemmas.Iterator.Consumers.{YieldsList-turn, fold_from_yields_List}
use Rattle.std.proofs.lemmas.List.FromFn.{length-range_with_len, get_or-range_with_len}
use Rattle.folds.specs.Below.{any_below}
use Rattle.folds.specs.Sets.{in_set, set_below}
use Rattle.folds.proofs.Bools.{eqb_sym}
use Rattle.folds.proofs.Filters.{passing_of_range}
use Rattle.folds.proofs.Numbers.{sum_zero}
use Rattle.folds.proofs.Sets.{in_none, in_one, in_or, in_below, set_none, set_or}
use Rattle.folds.proofs.Tests.{any_none, any_next, any_same}

-- a `fold` over the numbers below n, by a closure that stays as it is
module _ {F C : Type 0} {g : Mut F (C × (ℕ × Unit {0})) C} {s : Range ℕ} {f : F} (n : ℕ)
    (whole : s ≡ record { start = 0; end = n }) where
  -- it may be called at each number
  pub fold_callable : {first : C} → ((a : C) (x : ℕ) (b : C) (q : F) → Called g f (a, (x, tt)) b q → q ≡ f) →
      ((a : C) (x : ℕ) → x < n → Takes g f (a, (x, tt))) →
      CallableAtEachTurn {P = F × C} nat_range_steps (FoldTurn g) (λ p x. Takes g p.0 (p.1, (x, tt))) s (f, first)
  fold_callable {first} stays may =
      serves_by (FoldTurn g) (λ _ p. p.0 ≡ f)
      (λ xs p x q e r. stays p.1 x q.1 q.0 (subst (λ h. Called g h (p.1, (x, tt)) q.1 q.0) e r))
      nat_range_steps (λ p x. Takes g p.0 (p.1, (x, tt))) s (f, first) refl
      (λ xs t p x u y step e. subst (λ h. Takes g h (p.1, (x, tt))) (sym e) (may p.1 x (below xs t x u y step)))
    where
      below : (xs : List ℕ) (t : Range ℕ) (x : ℕ) (u : Range ℕ) → Yields nat_range_steps s xs t →
          nat_range_steps t (Some x) u → x < n
      below xs t x u y step =
          let turn = YieldsList-turn (YieldsList-from_range 0 n n whole (omega arith)) xs t y (Some x) u x refl step in
          let l = length-range_with_len 0 n in
          let at = get_or-range_with_len 0 n (length xs) x (omega (arith, turn.0, l)) in
          omega (arith, turn.0, turn.1, l, at)

  -- what holds of the number and the total at each turn holds at the end
  module _ (J : ℕ → C → Type 0)
      (turn : (x : ℕ) (c d : C) (q : F) → x < n → J x c → Called g f (c, (x, tt)) d q → (q ≡ f) × J (x + 1) d) where
    turns : (k a : ℕ) (c r : C) (p q : F) → a + k ≡ n → p ≡ f → J a c →
        FoldsTo {P = F × C} (FoldTurn g) (p, c) (range_with_len a k) (q, r) → J n r
    turns zero a c r p q e same j ran = rw (← e, add-zero a, ← ap (λ (t : F × C). t.1) ran) j
    turns (suc k) a c r p q e same j ran =
        let (h, called, rest) = ran in
        let (kept, more) = turn a c h.1 h.0 (omega arith) j (rw same at called) in
        turns k (a + 1) h.1 r h.0 q (omega arith) kept more rest

    pub fold_of_range : {c r : C} → J 0 c → FoldsItems nat_range_steps g s f c r → J n r
    fold_of_range {c} {r} j ran =
        let all = YieldsList-from_range 0 n n whole (omega arith) in
        let items =
        sym (map-id ran.0) ∙ gives_Drains nat_range_steps (λ x. x) ran.0 (range_with_len 0 n) s all.runs ran.2 in
        turns n 0 c r f ran.1 (omega arith) refl j (rw items at ran.3)

-- a set to which each turn whose test is met adds another set
module _ {F : Type 0} {g : Mut F (ℕ × (ℕ × Unit {0})) ℕ} {s : Range ℕ} {f : F} where
  -- has a number that is in a set added
  pub fold_gathers : (test : ℕ → Bool) (more : ℕ → ℕ) (n : ℕ) (set : ℕ) → s ≡ record { start = 0; end = n } →
      ((a x b : ℕ) (q : F) → Called g f (a, (x, tt)) b q → (q ≡ f) × (b ≡ cond (test x) (bit_or a (more x)) a)) →
      FoldsItems nat_range_steps g s f 0 set → (j : ℕ) →
      in_set set j ≡ any_below n (λ i. test i && in_set (more i) j)
  fold_gathers test more n set whole each ran j =
      fold_of_range n whole (λ i set. in_set set j ≡ any_below i (λ k. test k && in_set (more k) j))
      (λ x a b q l here k.
      let (same, is) = each a x b q k in
      (same, ap (λ y. in_set y j) is ∙ by a x here (test x) refl)) (in_none j ∙ sym (any_none _)) ran
    where
      by : (set i : ℕ) → in_set set j ≡ any_below i (λ k. test k && in_set (more k) j) → (t : Bool) → test i ≡ t →
          in_set (cond (test i) (bit_or set (more i)) set) j ≡ any_below (i + 1) (λ k. test k && in_set (more k) j)
      by set i here true e = rw (e, any_next, e, in_or, here)
      by set i here false e = rw (e, any_next, e, or-false) here

  -- the number that h gives at each turn is added
  pub fold_adds : (h : ℕ → ℕ) (n : ℕ) (set : ℕ) → s ≡ record { start = 0; end = n } →
      ((a x b : ℕ) (q : F) → Called g f (a, (x, tt)) b q → (q ≡ f) × (b ≡ bit_or a (2 ^ h x))) →
      FoldsItems nat_range_steps g s f 0 set → (j : ℕ) → in_set set j ≡ any_below n (λ i. eqb (h i) j)
  fold_adds h n set whole each ran j =
      fold_gathers (λ _. true) (λ i. 2 ^ h i) n set whole each ran j
      ∙ any_same _ (λ i. eqb (h i) j) n (λ i l. in_one (h i) j ∙ eqb_sym j (h i))

-- what each step of a fold over a list keeps, the fold comes to
pub fold_steps : {A B : Type 0} (P : ℕ → B → Type 0) (h : B → A → B) (d : A) (xs : List A) (a : B) → P 0 a →
    ((i : ℕ) (b : B) → i < length xs → P i b → P (suc i) (h b (get_or xs i d))) → P (length xs) (fold h a xs)
fold_steps P h d [] a z s = z
fold_steps P h d (x ∷ xs) a z s =
    fold_steps (λ i. P (suc i)) h d xs (h a x) (s 0 a (omega arith) z) (λ i b l p. s (suc i) b (omega arith) p)

-- a fold over the numbers from k on that puts into a set those of which p holds
passing : (p : ℕ → Bool) (k n end set : ℕ) → k + n ≡ end → set ≡ set_below k p →
    fold (λ a i. cond (p i) (bit_or a (2 ^ i)) a) set (range_with_len k n) ≡ set_below end p
passing p k zero end set e is = is ∙ ap (λ m. set_below m p) (omega arith)
passing p k (suc n) end set e is =
    passing p (k + 1) n end _ (omega arith) (by (p k) ∙ rw (set_or p k, is))
  where
    by : (t : Bool) → cond t (bit_or set (2 ^ k)) set ≡ bit_or set (cond t (2 ^ k) 0)
    by true = refl
    by false = sym (or_zero_r set)

-- and of the numbers below n
pub fold_passing : (p : ℕ → Bool) (n : ℕ) →
    fold (λ set i. cond (p i) (bit_or set (2 ^ i)) set) 0 (range_with_len 0 n) ≡ set_below n p
fold_passing p n = passing p 0 n n 0 (omega arith) (sym (set_none p))

-- a fold over the items that pass a test
fold_filtered : {A B : Type 0} (p : A → Bool) (h : B → A → B) (a : B) (xs : List A) →
    fold h a (filter p xs) ≡ fold (λ b x. cond (p x) (h b x) b) a xs
fold_filtered p h a [] = refl
fold_filtered p h a (x ∷ xs) = by (p x) (λ b. fold_filtered p h b xs)
  where
    by : (t : Bool) → ((b : _) → fold h b (filter p xs) ≡ fold (λ b y. cond (p y) (h b y) b) b xs) →
        fold h a (cond t (x ∷ filter p xs) (filter p xs)) ≡ fold (λ b y. cond (p y) (h b y) b) (cond t (h a x) a) xs
    by true e = e (h a x)
    by false e = e a

-- `fold` after `filter p` over a range, where p holds of no number before it, gathers those of which p holds; the test
-- is asked of the range alone
module _ {F G : Type 0} {g : Mut F (Bor ℕ × Unit {0}) Bool} {h : Mut G (ℕ × (ℕ × Unit {0})) ℕ}
    {s : Filter (Range ℕ) F} {f : F} {add : G} {set : ℕ} (p : ℕ → Bool) (from end : ℕ) (some : from ≤ end) where
  pub gathered_between : FoldsItems (filter_steps nat_range_steps g) h s add 0 set →
      filter_source s ≡ record { start = from; end = end } → filter_callee s ≡ f →
      ((x : ℕ) (b : Bool) (q : F) → from ≤ x → x < end → CalledAt g f x b q → (q ≡ f) × (b ≡ p x)) →
      ((a x b : ℕ) (q : G) → Called h add (a, (x, tt)) b q → (q ≡ add) × (b ≡ bit_or a (2 ^ x))) →
      ((k : ℕ) → k < from → p k ≡ false) → (r : ℕ) → in_set set r ≡ (ltb r end && p r)
  unfolding set_below
  gathered_between ran source callee tests adds low r =
      let n = end - from in
      let road = passing_of_range g p from end tests source some callee in
      let is = fold_from_yields_List h (λ a x. bit_or a (2 ^ x)) 0 set ran road adds
      ∙ fold_filtered p (λ a x. bit_or a (2 ^ x)) 0 (range_with_len from n)
      ∙ passing p from n end 0 (omega arith)
      (sym (sum_zero (λ k. cond (p k) (2 ^ k) 0) from (λ k l. rw (low k l)))) in
      ap (λ x. in_set x r) is ∙ in_below p end r

  pub gathered_from : FoldsItems (filter_steps nat_range_steps g) h s add 0 set →
      filter_source s ≡ record { start = from; end = end } → filter_callee s ≡ f →
      ((x : ℕ) (b : Bool) (q : F) → CalledAt g f x b q → (q ≡ f) × (b ≡ p x)) →
      ((a x b : ℕ) (q : G) → Called h add (a, (x, tt)) b q → (q ≡ add) × (b ≡ bit_or a (2 ^ x))) →
      ((k : ℕ) → k < from → p k ≡ false) → (r : ℕ) → in_set set r ≡ (ltb r end && p r)
  gathered_from ran source callee tests =
      gathered_between ran source callee (λ x b q l m called. tests x b q called)
