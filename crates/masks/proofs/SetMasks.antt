-- The masks of the sets of roles, role by role.
use Prim.Native.Nat.{ℕ, suc, ◌+◌, ◌-◌, ◌^◌, ◌<◌, ◌≤◌}
use mathlib.Core.Bool.{Bool, true, false, ◌&&◌, ◌||◌, cond, and-true, and_assoc, or-true, or-false}
use mathlib.Core.Path.{◌≡◌, refl, sym, ap, ◌∙◌}
use mathlib.Core.Logic.{⊎_elim}
use mathlib.Core.List.{List, ◌++◌}
use native.Mathlib.Numerals.{add-one}
use native.Mathlib.Nat.{one-mul, add-zero, add-suc}
use native.Mathlib.Omega.{arith}
use borrow.Author.Tests.{eq-eqb, ne_eqb, lt-ltb, le-ltb, ltb-true, ltb-false}
use lib.Bits.{bit_and, bit_or, or_shifted_r}
use lib.Dec.{eqb, ltb}
use lib.ListN.{length, get_or, set, take, drop, length-set}
use lib.Seq.{get_or-set_same}
use lib.Pow.{pow_mono}
use Rattle.folds.specs.Below.{all_below}
use Rattle.folds.specs.Sets.{in_set}
use Rattle.folds.proofs.Bools.{met_or_not, same_test, and_left, and_right, and_both}
use Rattle.folds.proofs.Folds.{fold_steps}
use Rattle.folds.proofs.Numbers.{count_le}
use Rattle.folds.proofs.Parts.{before_end}
use Rattle.folds.proofs.Tests.{all_each, all_at, all_same}
use Rattle.folds.proofs.Sets.{in_and, in_none, in_added, in_set_high}
use Rattle.decision.specs.Conditions.{role_num}
use Rattle.std.specs.List.{fold, between}
use Rattle.std.proofs.lemmas.Slice.{between_to_end}
use Rattle.std.proofs.lemmas.List.{length-take, get_or-take, get_or-drop}
use Rattle.std.proofs.Common.{length-drop}
use Rattle.masks.specs.Sets.{Without, spared, spared_from, role_fits, WithinReach}
use Rattle.masks.specs.Sets.{Doubled, SetsMarked, NumbersFit, SetsFor}

-- clauses that are left where a role is in `start`, or else those that don't ask for it
chosen : (s z o : Bool) (own mask b : ℕ) → o ≡ in_set own b
    → ((o && z) && in_set (cond s own mask) b) ≡ (o && (z && (s || in_set mask b)))
chosen true z true own mask b e = rw (← e)
chosen true z false own mask b e = refl
chosen false z o own mask b e = and_assoc o z (in_set mask b)

module _ (own : ℕ) (roles : List ℕ) (start end : ℕ) where
  -- at first all
  pub reach_none : WithinReach own roles start end end own
  unfolding spared_from
  reach_none = record {
    members = λ b. rw (all_each (spared_from roles start end b) end (λ r l. rw (lt-ltb r end l)))
        (sym (and-true (in_set own b)));
  }

  -- one role further
  pub reach_next : {r reached other : ℕ} → end ≤ r → WithinReach own roles start end r reached
      → other ≡ cond (in_set start r) own (get_or roles r 0)
      → WithinReach own roles start end (r + 1) (bit_and reached other)
  unfolding spared_from spared all_below
  reach_next {r} {reached} h w e = record {
    members = λ b. in_and reached _ b ∙ rw (w.members b, e, add-one, le-ltb r end h)
        (chosen (in_set start r) (all_below r (spared_from roles start end b)) (in_set own b) own
        (get_or roles r 0) b refl);
  }

-- all roles from `end` on
pub reached_all : {own start end at reached : ℕ} {roles without : List ℕ} → Without own roles start without → end ≤ 8
    → at ≡ end → reached ≡ fold (λ reached mask. bit_and reached mask) own (between at 8 without)
    → WithinReach own roles start end 8 reached
reached_all {own} {start} {end} {roles = roles} {without} h l e f =
    let size = h.size in
    let left = length-drop end without in
    let s : end + length (drop end without) ≡ 8 = omega arith in
    rw (f, e, between_to_end without end 8 (omega arith))
    (rw s at (fold_steps (λ i reached. WithinReach own roles start end (end + i) reached)
    (λ reached mask. bit_and reached mask) 0 (drop end without) own (rw add-zero (reach_none own roles start end))
    (λ i reached m w. rw (add-suc end i) (rw add-one at (reach_next own roles start end {r = end + i} (omega arith) w
    (get_or-drop end without i 0 ∙ h.each (end + i) (omega arith)))))))

-- the masks of the sets below 2 ^ n, as far as the roles below n go, of clauses within reach
pub record MarkedTo (own : ℕ) (roles w : List ℕ) (start end n : ℕ) (sets : List ℕ) : Type 0 where
  pub size : length sets ≡ 256
  pub members : (v b : ℕ) → v < 2 ^ n → in_set (get_or sets v 0) b
      ≡ ((in_set own b && all_below 8 (spared_from roles start end b)) && all_below n (role_fits roles w start v b))

-- the sets of the roles below one of the eight are at most 128
pub half_le : {half r : ℕ} → half ≡ 2 ^ r → r < 8 → half ≤ 128
half_le {half} {r} e l = let h : r ≤ 7 = omega arith in rw e (pow_mono h)

pub half_is : {half n without with : ℕ} {was masks : List ℕ} → half ≡ n → Doubled half without with was masks
    → Doubled n without with was masks
half_is e d = rw e at d

-- the clauses left with role n, whose weight is x: all if it has weight, else none
pub with_weight : (w : List ℕ) (n own : ℕ) {x with : ℕ} → x ≡ get_or w n 0 → 0 < x → with ≡ own
    → with ≡ cond (ltb 0 (get_or w n 0)) own 0
with_weight w n own {x} e h i = rw (i, ← e, lt-ltb 0 x h)

pub with_none : (w : List ℕ) (n own : ℕ) {x with : ℕ} → x ≡ get_or w n 0 → x ≤ 0 → with ≡ 0
    → with ≡ cond (ltb 0 (get_or w n 0)) own 0
with_none w n own {x} e h i = rw (i, ← e, le-ltb 0 x h)

-- a set with the next role
with_next : (n u r : ℕ) → u < 2 ^ n → in_set (2 ^ n + u) r ≡ (in_set u r || eqb n r)
with_next n u r l =
    ap (λ (x : ℕ). in_set x r) (ap (λ (x : ℕ). x + u) (sym (one-mul (2 ^ n))) ∙ sym (or_shifted_r 1 n u l)
    ∙ ap (bit_or u) (one-mul (2 ^ n))) ∙ in_added u n r

-- clauses that are left where a role has weight
weighed : (t a : Bool) (own b : ℕ) (o z : Bool) → o ≡ in_set own b
    → (((o && z) && a) && in_set (cond t own 0) b) ≡ ((o && z) && (a && t))
weighed true a own b true z e = rw (← e) (and_assoc z a true)
weighed true a own b false z e = refl
weighed false a own b o z e = rw (in_none b) (and_assoc (o && z) a false)

module _ (own : ℕ) (roles w : List ℕ) (start end : ℕ) where
  -- at first the empty set
  pub marked_none : {reached : ℕ} (was : List ℕ) → length was ≡ 256 → WithinReach own roles start end 8 reached
      → MarkedTo own roles w start end 0 (set was 0 reached)
  unfolding all_below
  marked_none {reached} was size h = record {
    size = length-set was 0 reached ∙ size;
    members = λ v b l. let e : v ≡ 0 = omega arith in
        rw (e, get_or-set_same was 0 reached 0 (omega arith), h.members b)
        (sym (and-true (in_set own b && all_below 8 (spared_from roles start end b))));
  }

  module _ {n without with : ℕ} {was sets : List ℕ} (m : MarkedTo own roles w start end n was)
      (d : Doubled (2 ^ n) without with was sets) (o : without ≡ cond (in_set start n) own (get_or roles n 0))
      (i : with ≡ cond (ltb 0 (get_or w n 0)) own 0) where
    abbrev Right : ℕ → ℕ → Type 0
    Right v b = in_set (get_or sets v 0) b
        ≡ ((in_set own b && all_below 8 (spared_from roles start end b))
        && all_below (n + 1) (role_fits roles w start v b))

    lacking : (v b : ℕ) → v < 2 ^ n → Right v b
    unfolding all_below role_fits spared
    lacking v b l =
        rw (
          d.lower v l,
          in_and (get_or was v 0) without b,
          m.members v b l,
          o,
          add-one,
          in_set_high n v n l (omega arith),
        )
        (ap (λ (c : Bool). c && in_set (cond (in_set start n) own (get_or roles n 0)) b) (and_assoc (in_set own b) _ _)
        ∙ chosen (in_set start n) _ (in_set own b) own (get_or roles n 0) b refl
        ∙ ap (λ (c : Bool). in_set own b && c) (and_assoc (all_below 8 (spared_from roles start end b)) _ _)
        ∙ sym (and_assoc (in_set own b) _ _))

    having : (u b : ℕ) → u < 2 ^ n → Right (2 ^ n + u) b
    unfolding all_below role_fits
    having u b l =
        let last : in_set (2 ^ n + u) n ≡ true = with_next n u n l ∙ rw (eq-eqb n n refl) (or-true (in_set u n)) in
        let same : all_below n (role_fits roles w start u b) ≡ all_below n (role_fits roles w start (2 ^ n + u) b) =
        all_same (role_fits roles w start u b) (role_fits roles w start (2 ^ n + u) b) n
        (λ r k. rw (with_next n u r l, ne_eqb n r (λ e. omega arith), or-false)) in
        rw (d.upper u l, in_and (get_or was u 0) with b, m.members u b l, i, add-one, last, same)
        (weighed (ltb 0 (get_or w n 0)) (all_below n (role_fits roles w start (2 ^ n + u) b)) own b
        (in_set own b) _ refl)

    pub marked_next : MarkedTo own roles w start end (n + 1) sets
    marked_next = record {
      size = d.size ∙ m.size;
      members = λ v b l. ⊎_elim (λ t. lacking v b (ltb-true v (2 ^ n) t))
          (λ t. let h = ltb-false v (2 ^ n) t in
          let k : v < 2 ^ suc n = rw add-one at l in
          let e : 2 ^ n + (v - 2 ^ n) ≡ v = omega arith in
          rw e at (having (v - 2 ^ n) b (omega arith)))
          (met_or_not (ltb v (2 ^ n)));
    }

  -- the roles from `end` on are those that a set below 2 ^ end lacks
  module _ (v b : ℕ) (l : v < 2 ^ end) where
    abbrev spare : ℕ → Bool
    spare = spared_from roles start end b

    abbrev fit : ℕ → Bool
    fit = role_fits roles w start v b

    -- past `end` the two are the same
    past : (r : ℕ) → ltb r end ≡ false → spare r ≡ fit r
    unfolding role_fits spared_from
    past r i = rw (i, in_set_high end v r l (ltb-false r end i))

    into : (all_below 8 spare && all_below end fit) ≡ true → (r : ℕ) → r < 8 → fit r ≡ true
    into t r k = ⊎_elim
        (λ i. all_at fit end (and_right (all_below 8 spare) (all_below end fit) t) r (ltb-true r end i))
        (λ i. sym (past r i) ∙ all_at spare 8 (and_left (all_below 8 spare) (all_below end fit) t) r k)
        (met_or_not (ltb r end))

    back : all_below 8 fit ≡ true → (r : ℕ) → r < 8 → spare r ≡ true
    unfolding spared_from
    back t r k = ⊎_elim (λ i. rw i) (λ i. past r i ∙ all_at fit 8 t r k) (met_or_not (ltb r end))

    all_roles : end ≤ 8 → (all_below 8 spare && all_below end fit) ≡ all_below 8 fit
    all_roles h = same_test (all_below 8 spare && all_below end fit) (all_below 8 fit) (λ t. all_each fit 8 (into t))
        (λ t. and_both (all_each spare 8 (back t)) (all_each fit end (λ r k. all_at fit 8 t r (omega arith))))

  pub marked_all : {sets : List ℕ} → end ≤ 8 → MarkedTo own roles w start end end sets
      → SetsMarked own roles w start end sets
  marked_all h m = record {
    members = λ v b l.
        m.members v b l ∙ and_assoc (in_set own b) _ _ ∙ ap (λ (c : Bool). in_set own b && c) (all_roles v b l h);
  }

-- no set has more than 8 roles
pub role_num_le : (set : ℕ) → role_num set ≤ 8
unfolding role_num
role_num_le set = count_le (in_set set) 8

-- the count at a set
pub counted : (counts : List ℕ) {at set count : ℕ} → at ≡ set → count ≡ get_or counts at 0
    → get_or counts set 0 ≡ role_num set → count ≡ role_num set
counted counts e c h = c ∙ rw e h

-- the masks of the sets, where clauses ask for numbers of roles
pub sets_fitted : {own : ℕ} {roles w : List ℕ} {start end half : ℕ} {was sets : List ℕ} (numbers : List ℕ)
    → length was ≡ 256 → (half ≡ 2 ^ end) × (half ≤ 256) → SetsMarked own roles w start end was
    → NumbersFit (length (take half was)) numbers start (take half was) sets
    → SetsFor own numbers roles w start end (sets ++ drop half was)
sets_fitted {start = start} {half = half} {was} {sets} numbers size e m f =
    let few = e.1 in
    let all = length-take half was in
    let long : length sets ≡ half = f.size ∙ omega arith in
    record {
      members = λ v b l.
          let less : v < half = rw (e.0) l in
          ap (λ (x : ℕ). in_set x b) (before_end was sets half v long less ∙ f.each v (omega arith)
          ∙ ap (λ (x : ℕ). bit_and x (get_or numbers (role_num (bit_or start v)) 0)) (get_or-take half was v 0 less))
          ∙ in_and (get_or was v 0) _ b
          ∙ ap (λ (c : Bool). c && in_set (get_or numbers (role_num (bit_or start v)) 0) b) (m.members v b l);
    }

-- and where none does
pub sets_plain : {own : ℕ} {roles w : List ℕ} {start end : ℕ} {sets : List ℕ} (numbers : List ℕ)
    → ((c : ℕ) → c < 9 → get_or numbers c 0 ≡ own) → SetsMarked own roles w start end sets
    → SetsFor own numbers roles w start end sets
sets_plain {own} {start = start} numbers h m = record {
  members = λ v b l. m.members v b l
      ∙ rw (h (role_num (bit_or start v)) (let k = role_num_le (bit_or start v) in omega arith)) (by (in_set own b) _);
}
  where
    by : (o x : Bool) → (o && x) ≡ ((o && x) && o)
    by true x = sym (and-true x)
    by false x = refl
