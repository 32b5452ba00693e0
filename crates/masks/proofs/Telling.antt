-- The masks of a permission tell whether its condition holds.
use Prim.Native.Nat.{ℕ, zero, suc, ◌^◌, ◌<◌, ◌≤◌}
use mathlib.Core.Bool.{Bool, true, false, ◌&&◌, ◌||◌, not, cond, and-false}
use mathlib.Core.Path.{◌≡◌, refl, sym, ap, ◌∙◌}
use mathlib.Core.Logic.{◌⊎◌, ⊎_elim}
use mathlib.Core.List.{List}
use native.Mathlib.Nat.{lt_of_lt_of_le}
use native.Mathlib.Omega.{arith}
use borrow.Author.Tests.{lt-ltb, eqb-true, eqb-false}
use lib.Bits.{bit_and, bit_or}
use lib.Dec.{eqb, ltb, lit<}
use lib.ListN.{get_or}
use lib.Pow.{pow_pos}
use Rattle.folds.specs.Below.{all_below, any_below}
use Rattle.folds.specs.Sets.{in_set}
use Rattle.folds.proofs.Bools.{met_or_not, same_test, and_left, and_right, and_both}
use Rattle.folds.proofs.Tests.{all_same, all_stop, any_same, any_each, any_at}
use Rattle.folds.proofs.Sets.{in_and, in_or, in_none, in_set_lem, in_set_below, same_set}
use Rattle.reader.specs.Tables.{clauses, record_count}
use Rattle.reader.specs.Fields.{clause_permission}
use Rattle.decision.specs.Conditions.{role_num, clause_holds, clause_of_holds, permission_holds}
use Rattle.masks.specs.declared.asked.Asked.{Asked}
use Rattle.masks.specs.Clauses.{clauses_of, Checked, met, Narrowed, NarrowedAll}
use Rattle.masks.specs.Sets.{spared, role_fits, SetsFor}
use Rattle.masks.specs.Rows.{Joined, RowFor}
use Rattle.seek.specs.Search.{met_by}
use Rattle.masks.proofs.Apart.{clause_apart}
use Rattle.masks.proofs.SetMasks.{role_num_le}

-- every number is below its power of two
lt_power : (n : ℕ) → n < 2 ^ n
lt_power zero = lit< tt
lt_power (suc n) = omega (arith, lt_power n)

-- a set without members is 0
pub empty_set : (a : ℕ) → ((r : ℕ) → in_set a r ≡ false) → a ≡ 0
empty_set a h = same_set a a 0 (lt_power a) (pow_pos a) (λ r l. h r ∙ sym (in_none r))

-- a set of numbers below n isn't 0 exactly where it has one of them
pub some_in : (n a : ℕ) → ((r : ℕ) → in_set a r ≡ true → r < n) → not (eqb a 0) ≡ any_below n (in_set a)
some_in n a below = ⊎_elim
    (λ t. let e : a ≡ 0 = eqb-true a 0 t in rw (t, any_each (in_set a) n (λ r l. rw e (in_none r))))
    (λ t. rw t (by (met_or_not (any_below n (in_set a))) (eqb-false a 0 t))) (met_or_not (eqb a 0))
  where
    none : any_below n (in_set a) ≡ false → (r : ℕ) → in_set a r ≡ false
    none h r = ⊎_elim (λ i. any_at (in_set a) n h r (below r i)) (λ i. i) (met_or_not (in_set a r))

    by : (any_below n (in_set a) ≡ true) ⊎ (any_below n (in_set a) ≡ false) → (a ≡ 0 → ⊥) →
        true ≡ any_below n (in_set a)
    by t d = ⊎_elim (λ i. sym i) (λ i. absurd (d (empty_set a (none i)))) t

-- the masks of an attribute once all clauses are done
pub done : {k : List ℕ} {own count a : ℕ} {masks : List ℕ} → Narrowed k own 0 count a masks → (x b : ℕ) → x < count
    → in_set (get_or masks x 0) b ≡ (in_set own b && met k b a x)
done n x b l = n.members x b l ∙ rw (in_none b)

module _ {k : List ℕ} {own count : ℕ} {asked : Asked} {sums : List ℕ}
    (all : NarrowedAll k own 0 count asked sums) {w : List ℕ} {start end : ℕ} {sets : List ℕ}
    (marked : SetsFor own asked.numbers asked.roles w start end sets) where
  abbrev entries : List ℕ
  entries = asked.entries

  abbrev roles : List ℕ
  roles = asked.roles

  -- for a set whose roles have weight, what a role is to be is that the clause's conditions on the set are met
  fits_role : (v b r : ℕ) → ((r : ℕ) → r < 8 → in_set v r ≡ true → 0 < get_or w r 0) → in_set own b ≡ true → r < 8
      → role_fits roles w start v b r ≡ (in_set (bit_or start v) r || met k b 3 r)
  unfolding role_fits spared
  fits_role v b r h o l =
      let mask : in_set (get_or roles r 0) b ≡ met k b 3 r =
      done all.roles r b l ∙ ap (λ (c : Bool). c && met k b 3 r) o in
      ap (λ (c : Bool). cond (in_set v r) (ltb 0 (get_or w r 0)) (in_set start r || c)) mask
      ∙ by (in_set v r) (ltb 0 (get_or w r 0)) (in_set start r) (met k b 3 r) (λ i. lt-ltb 0 (get_or w r 0) (h r l i))
      ∙ ap (λ (c : Bool). c || met k b 3 r) (sym (in_or start v r))
    where
      by : (x t s m : Bool) → (x ≡ true → t ≡ true) → cond x t (s || m) ≡ ((s || x) || m)
      by true t true m e = e refl
      by true t false m e = e refl
      by false t true m e = refl
      by false t false m e = refl

  -- a clause is in a set's mask where its conditions on the roles are met
  pub in_sets : (v b : ℕ) → v < 2 ^ end → ((r : ℕ) → r < 8 → in_set v r ≡ true → 0 < get_or w r 0)
      → in_set (get_or sets v 0) b ≡ (in_set own b && (met k b 2 (role_num (bit_or start v))
      && all_below 8 (λ r. in_set (bit_or start v) r || met k b 3 r)))
  in_sets v b l h =
      let set : ℕ = bit_or start v in
      let few : role_num set < 9 = let m = role_num_le set in omega arith in
      let held : ℕ → Bool = λ r. in_set set r || met k b 3 r in
      marked.members v b l ∙ ap (λ (c : Bool). (in_set own b && all_below 8 (role_fits roles w start v b)) && c)
      (done all.numbers (role_num set) b few)
      ∙ by (in_set own b) (all_below 8 (role_fits roles w start v b)) (all_below 8 held) (met k b 2 (role_num set))
      (λ o. all_same (role_fits roles w start v b) held 8 (λ r m. fits_role v b r h o m))
    where
      swap : (x y : Bool) → (x && y) ≡ (y && x)
      swap true true = refl
      swap true false = refl
      swap false true = refl
      swap false false = refl

      by : (o x y z : Bool) → (o ≡ true → x ≡ y) → ((o && x) && (o && z)) ≡ (o && (z && y))
      by true x y z e = rw (e refl) (swap y z)
      by false x y z e = refl

  -- a set with a role that has no weight has no clause
  pub kept : (v r : ℕ) → v < 2 ^ end → r < 8 → in_set v r ≡ true → get_or w r 0 ≡ 0 → get_or sets v 0 ≡ 0
  unfolding role_fits
  kept v r l m i e = empty_set (get_or sets v 0) (λ b. marked.members v b l
      ∙ rw (all_stop (role_fits roles w start v b) 8 r m (rw (i, e)), and-false))

  -- a clause is in a row and the masks of a sum and a set exactly where it is one of these and holds
  module _ (t : Checked k) (small : own < 2 ^ record_count clauses k) {number reached from to row s v : ℕ}
      (r : RowFor entries number reached sums from to row) (j : Joined 0 (2 ^ end) sets reached) (some : 0 < number)
      (few : number ≤ 6) (low : from ≤ s) (high : s < to) (within : to ≤ count) (below : v < 2 ^ end)
      (h : (r : ℕ) → r < 8 → in_set v r ≡ true → 0 < get_or w r 0) where
    abbrev set : ℕ
    set = bit_or start v

    abbrev by_roles : ℕ → Bool
    by_roles b = met k b 2 (role_num set) && all_below 8 (λ r. in_set set r || met k b 3 r)

    by_number : (b : ℕ) → in_set (get_or entries number 0) b ≡ (in_set own b && met k b 0 number)
    by_number b = done all.entries number b (omega arith)

    by_sum : (b : ℕ) → in_set (get_or sums s 0) b ≡ (in_set own b && met k b 1 s)
    by_sum b = done all.sums s b (lt_of_lt_of_le high within)

    by_set : (b : ℕ) → in_set (get_or sets v 0) b ≡ (in_set own b && by_roles b)
    by_set b = in_sets v b below h

    holds : (b : ℕ) → in_set own b ≡ true → clause_holds k number s set b
        ≡ ((met k b 0 number && met k b 1 s) && by_roles b)
    holds b o = clause_apart k b number s set t (in_set_below (record_count clauses k) own b small o)

    abbrev together : ℕ → Bool
    together b = (in_set row b && in_set (get_or sums s 0) b) && in_set (get_or sets v 0) b

    into : (b : ℕ) → together b ≡ true → (in_set own b && clause_holds k number s set b) ≡ true
    into b e =
        let both = and_left (in_set row b && in_set (get_or sums s 0) b) (in_set (get_or sets v 0) b) e in
        let n = sym (by_number b) ∙ r.low b (and_left (in_set row b) (in_set (get_or sums s 0) b) both) in
        let m = sym (by_sum b) ∙ and_right (in_set row b) (in_set (get_or sums s 0) b) both in
        let q = sym (by_set b) ∙ and_right (in_set row b && in_set (get_or sums s 0) b)
        (in_set (get_or sets v 0) b) e in
        let o = and_left (in_set own b) (met k b 0 number) n in
        and_both o (holds b o ∙ and_both
        (and_both (and_right (in_set own b) (met k b 0 number) n) (and_right (in_set own b) (met k b 1 s) m))
        (and_right (in_set own b) (by_roles b) q))

    back : (b : ℕ) → (in_set own b && clause_holds k number s set b) ≡ true → together b ≡ true
    back b e =
        let o = and_left (in_set own b) (clause_holds k number s set b) e in
        let all_met = sym (holds b o) ∙ and_right (in_set own b) (clause_holds k number s set b) e in
        let both = and_left (met k b 0 number && met k b 1 s) (by_roles b) all_met in
        let n = by_number b ∙ and_both o (and_left (met k b 0 number) (met k b 1 s) both) in
        let m = by_sum b ∙ and_both o (and_right (met k b 0 number) (met k b 1 s) both) in
        let q = by_set b ∙ and_both o (and_right (met k b 0 number && met k b 1 s) (by_roles b) all_met) in
        and_both (and_both (r.high some s b low high n (j.has v b (omega arith) below q) m) m) q

    -- so they tell whether the permission's condition holds
    pub tells : (p : ℕ) → own ≡ clauses_of k p → met_by row sums sets s v ≡ permission_holds k p number s set
    unfolding permission_holds clauses_of
    tells p e =
        let c : ℕ = record_count clauses k in
        let x : ℕ = bit_and (bit_and row (get_or sums s 0)) (get_or sets v 0) in
        let members : (b : ℕ) → in_set x b ≡ together b = λ b. in_and (bit_and row (get_or sums s 0))
        (get_or sets v 0) b
        ∙ ap (λ (c : Bool). c && in_set (get_or sets v 0) b) (in_and row (get_or sums s 0) b) in
        let same : (b : ℕ) → together b ≡ (in_set own b && clause_holds k number s set b) = λ b.
        same_test (together b) (in_set own b && clause_holds k number s set b) (into b) (back b) in
        some_in c x (λ b i. in_set_below c own b small
        (and_left (in_set own b) (clause_holds k number s set b) (into b (sym (members b) ∙ i))))
        ∙ any_same (in_set x) (clause_of_holds k p number s set) c (λ b l. members b ∙ same b
        ∙ ap (λ (c : Bool). c && clause_holds k number s set b)
        (ap (λ (y : ℕ). in_set y b) e ∙ in_set_lem (λ i. eqb (clause_permission k i) p) c b l))

-- without a clause a permission's condition never holds
pub bare : (k : List ℕ) (p : ℕ) → clauses_of k p ≡ 0 → (n sum set : ℕ) → permission_holds k p n sum set ≡ false
unfolding permission_holds clauses_of
bare k p e n sum set = any_each (clause_of_holds k p n sum set) (record_count clauses k) (λ i l.
    let own : eqb (clause_permission k i) p ≡ false =
    sym (in_set_lem (λ i. eqb (clause_permission k i) p) (record_count clauses k) i l)
    ∙ ap (λ (s : ℕ). in_set s i) e ∙ in_none i in rw own)
