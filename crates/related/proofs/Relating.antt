-- The laws of related contexts: the test by pairs of clauses says whether some one context satisfies both numbers.
use Prim.Native.Nat.{ℕ, zero, suc, ◌+◌, ◌*◌, ◌<◌, ◌≤◌}
use mathlib.Core.Bool.{Bool, true, false, ◌&&◌, ◌||◌, cond, and_comm, or-true, or-false}
use mathlib.Core.Path.{◌≡◌, refl, sym, ◌∙◌}
use mathlib.Core.Logic.{◌⊎◌, inl, inr, ⊎_elim}
use mathlib.Core.List.{List}
use native.Mathlib.Nat.{le_refl, lt_of_not-le, mul_comm}
use native.Mathlib.Omega.{arith}
use borrow.Author.Tests.{ltb-true, ltb-false, leb-true, leb-false, eqb-true, not-false, lt-ltb, le-ltb, eq-eqb}
use lib.Dec.{ltb, eqb, lit<}
use lib.ListN.{length, get_or-eq_default}
use Rattle.folds.specs.Below.{any_below}
use Rattle.folds.proofs.Bools.{and_left, and_right, and_both, and_either, or_left, or_either, met_or_not, same_test}
use Rattle.folds.proofs.Tests.{all_at, all_each, all_fails, any_found, any_some, any_next, any_same}
use Rattle.reader.specs.Tables.{contexts, record_count, table_of}
use Rattle.reader.specs.Fields.{context_length, context_parameter, context_operator, context_value}
use Rattle.reader.specs.Rules.{range_of, contexts_bad, refusal_of}
use Rattle.reader.proofs.Frame.{table_length, record_count_lem}
use Rattle.reader.proofs.Accepted.{ContextConditionFine, context_fine, accepted}
use Rattle.weights.specs.declared.Context.{Context}
use Rattle.weights.specs.Operators.{meets}
use Rattle.weights.specs.Contexts.{on_date, value_of, context_condition_holds, context_clause_holds, clause_of_holds}
use Rattle.weights.specs.Contexts.{context_holds}
use Rattle.weights.proofs.Dates.{holds_any_date}
use Rattle.related.specs.Related.{both_hold, related_on, related, clause_of, fits_at, fits, both_fit, value_fits}
use Rattle.related.specs.Related.{some_value_fits, meetable, compatible, joins, meets_some}

-- what is true of 0, 1 and 2 is true of each number below 3
below_three : (P : ℕ → Type 0) → P 0 → P 1 → P 2 → (p : ℕ) → p < 3 → P p
below_three P a b d zero l = a
below_three P a b d (suc zero) l = b
below_three P a b d (suc (suc zero)) l = d
below_three P a b d (suc (suc (suc p))) l = absurd (omega arith)

-- where an operator takes w + 1 and not w, w + 1 is the condition's value or one more
step : (o w v : ℕ) → o ≤ 5 → meets o (suc w) v ≡ true → meets o w v ≡ false → (suc w ≡ v) ⊎ (suc w ≡ v + 1)
unfolding meets
step zero w v l h k = inr (omega (arith, ltb-true, ltb-false))
step (suc zero) w v l h k = absurd (omega (arith, ltb-true, ltb-false))
step (suc (suc zero)) w v l h k = inl (omega (arith, leb-true, leb-false))
step (suc (suc (suc zero))) w v l h k = absurd (omega (arith, leb-true, leb-false))
step (suc (suc (suc (suc zero)))) w v l h k = inl (eqb-true _ _ h)
step (suc (suc (suc (suc (suc zero))))) w v l h k = let e : w ≡ v = eqb-true _ _ (not-false _ k) in inr (omega arith)
step (suc (suc (suc (suc (suc (suc o)))))) w v l h k = absurd (omega arith)

-- the context's values are in their ranges
abbrev InRange : Context → Type 0
InRange at = (p : ℕ) → p < 3 → value_of at p < range_of p

-- v is in the range of parameter p and fits clauses i and j
record FitsBoth (c : List ℕ) (i j p v : ℕ) : Type 0 where
  range : v < range_of p
  first : fits c i p v ≡ true
  second : fits c j p v ≡ true

-- clause i is one of context number n and holds
abbrev holds_by : List ℕ → Context → ℕ → ℕ → Bool
holds_by c at n i = clause_of c n i && context_clause_holds at c i

module _ (c : List ℕ) where
  -- so says the test
  fits_both : (i j p v : ℕ) → both_fit c i j p v ≡ true → FitsBoth c i j p v
  unfolding both_fit
  fits_both i j p v h =
      let k = and_right (ltb v (range_of p)) _ h in
      record { range = ltb-true _ _ (and_left _ _ h); first = and_left _ _ k; second = and_right (fits c i p v) _ k }

  -- where a clause holds, the context's values fit it
  clause_fits : (at : Context) (i p : ℕ) → context_clause_holds at c i ≡ true → fits c i p (value_of at p) ≡ true
  unfolding context_clause_holds context_condition_holds fits
  clause_fits at i p h =
      all_each (fits_at c i p (value_of at p)) (context_length c i)
      (λ k l.
      let q = context_parameter c i k in
      let e = all_at (context_condition_holds at c i) (context_length c i) h k l in
      ⊎_elim (λ t. rw (← eqb-true q p t, eq-eqb q q refl) e) (λ t. rw t) (met_or_not (eqb q p)))

  -- of related numbers a context can be named that satisfies both
  related_some : (x y : ℕ) → related c x y ≡ true → (at : Context) × InRange at × (both_hold c x y at ≡ true)
  unfolding related_on value_of
  related_some x y h =
      let (m, lm, hm) = any_some _ 1440 h in
      let (d, ld, hd) = any_some _ 7 hm in
      let (z, lz, hz) = any_some _ 256 hd in
      let at : Context = record { minute = m; day = d; zone = z; date = 0 } in
      (at, below_three (λ p. value_of at p < range_of p) lm ld lz, hz)

  -- a context that satisfies both numbers relates them
  related_found : (x y : ℕ) (at : Context) → InRange at → both_hold c x y at ≡ true → related c x y ≡ true
  unfolding related_on value_of
  related_found x y at r h =
      let on_0 : both_hold c x y (on_date at 0) ≡ true = rw (holds_any_date at 0 c x, holds_any_date at 0 c y) h in
      any_found _ 1440 at.minute (r 0 (omega arith))
      (any_found _ 7 at.day (r 1 (omega arith)) (any_found _ 256 at.zone (r 2 (omega arith)) on_0))

  -- on every date the same numbers are related
  pub any_date : (date x y : ℕ) → related_on date c x y ≡ related c x y
  unfolding related_on context_holds context_clause_holds context_condition_holds value_of
  any_date date x y = refl

  -- relatedness is symmetric
  pub related_sym : (x y : ℕ) → related c x y ≡ related c y x
  related_sym x y = same_test _ _ (to x y) (to y x)
    where
      to : (x y : ℕ) → related c x y ≡ true → related c y x ≡ true
      to x y h = let (at, r, b) = related_some x y h in related_found y x at r (and_comm (context_holds at c y) _ ∙ b)

  module _ (whole : length c ≡ 16 * record_count contexts c) where
    -- a clause behind the table has no conditions
    pub no_conditions : (i : ℕ) → record_count contexts c ≤ i → context_length c i ≡ 0
    no_conditions i l = get_or-eq_default c 0 (omega arith)

    -- so one with conditions lies in the table
    with_conditions : (i : ℕ) → 0 < context_length c i → i < record_count contexts c
    with_conditions i h = lt_of_not-le (λ l. absurd (omega (arith, no_conditions i l)))

    -- with n of them, at most 3, condition k is one of the table's
    pub condition_inside : (i : ℕ) {k n : ℕ} → (n ≡ context_length c i) × (n ≤ 3) → k < n →
        (16 * i + 16 ≤ length c) × (k < 3)
    condition_inside i {k} {n} (is, few) l =
        let inside = with_conditions i (omega (arith, is)) in
        (omega arith, omega arith)

  module _ (fine : contexts_bad c ≡ false) (whole : length c ≡ 16 * record_count contexts c) where
    -- a clause of the table lies in it, and has at most 3 conditions
    pub clause_inside : (i : ℕ) → i < record_count contexts c → (16 * i + 16 ≤ length c) × (context_length c i ≤ 3)
    clause_inside i l = (omega arith, (context_fine 0 0 c i fine l).at_most)

    -- and so has one with a condition k
    pub condition_in_table : (i k : ℕ) → k < context_length c i → (16 * i + 16 ≤ length c) × (k < 3)
    condition_in_table i k l =
        let (inside, few) = clause_inside i (with_conditions whole i (omega arith)) in
        (inside, omega arith)

    -- the conditions of all clauses keep the rules
    condition_fine : (i k : ℕ) → k < context_length c i →
        ContextConditionFine (context_parameter c i k) (context_operator c i k) (context_value c i k)
    condition_fine i k l = (context_fine 0 0 c i fine (with_conditions whole i (omega arith))).condition k l

    -- where the context's values fit a clause, it holds
    fits_clause : (at : Context) (i : ℕ) → ((p : ℕ) → p < 3 → fits c i p (value_of at p) ≡ true) →
        context_clause_holds at c i ≡ true
    unfolding context_clause_holds context_condition_holds fits
    fits_clause at i h =
        all_each (context_condition_holds at c i) (context_length c i)
        (λ k l.
        let q = context_parameter c i k in
        let m = (condition_fine i k l).parameter_le in
        rw (eq-eqb q q refl) at (all_at (fits_at c i q (value_of at q)) (context_length c i) (h q (omega arith)) k l))

    -- a context number holds where one of its clauses does
    number_holds : (at : Context) (n : ℕ) →
        context_holds at c n ≡ any_below (record_count contexts c + 1) (holds_by c at n)
    unfolding context_holds
    number_holds at n =
        let count = record_count contexts c in
        let e = any_same (holds_by c at n) (clause_of_holds at c n) count (λ i l. rw (lt-ltb _ _ l)) in
        rw (any_next, e, le-ltb _ _ (le_refl count), no_conditions whole count (le_refl _))
        (by (eqb n 255) (any_below count (clause_of_holds at c n)))
      where
        by : (b a : Bool) → cond b true a ≡ (a || (b && true))
        by true a = sym (or-true a)
        by false a = sym (or-false a)

    number_held : (at : Context) (n i : ℕ) → i < record_count contexts c + 1 →
        clause_of c n i ≡ true → context_clause_holds at c i ≡ true → context_holds at c n ≡ true
    number_held at n i l h k = number_holds at n ∙ any_found (holds_by c at n) _ i l (and_both h k)

    module _ (i j p : ℕ) where
      -- where w + 1 fits both clauses, and w not clause s of them, w + 1 is a candidate of s
      value_found : (s w : ℕ) → both_fit c i j p (suc w) ≡ true → fits c s p (suc w) ≡ true → fits c s p w ≡ false →
          some_value_fits c s i j p ≡ true
      unfolding fits some_value_fits
      value_found s w b h f =
          let (k, l, e) = all_fails (fits_at c s p w) _ f in
          let q : eqb (context_parameter c s k) p ≡ true = not-false _ (or_left _ _ e) in
          any_found (value_fits c s i j p) _ k l
          (rw q
          (⊎_elim (λ v. rw (← v, b)) (λ v. rw (← v, b) (or-true (both_fit c i j p (context_value c s k))))
          (step _ _ _ (condition_fine s k l).operator_le (rw q at (all_at (fits_at c s p (suc w)) _ h k l))
          (rw q at e))))

      -- where a value fits both clauses, a candidate at or below it does
      fit_meetable : (v : ℕ) → both_fit c i j p v ≡ true → meetable c i j p ≡ true
      unfolding meetable both_fit
      fit_meetable zero h = rw h
      fit_meetable (suc w) h =
          let f = fits_both i j p (suc w) h in
          let l : w < range_of p = omega arith in
          ⊎_elim (fit_meetable w)
          (λ k.
          ⊎_elim (λ e. simp (value_found i w h f.first e, or-true))
          (λ e. simp (value_found j w h f.second e, or-true))
          (and_either (fits c i p w) _ (rw (lt-ltb _ _ l) at k)))
          (met_or_not (both_fit c i j p w))

      -- the least value that meets a set of conditions is 0, or a condition's value, or one more
      pub meetable_any : meetable c i j p ≡ any_below (range_of p) (both_fit c i j p)
      unfolding meetable some_value_fits
      meetable_any =
          same_test _ _ (λ h. ⊎_elim (found 0) (λ e. ⊎_elim (value i) (value j) (or_either _ _ e)) (or_either _ _ h))
          (λ h. let (v, l, e) = any_some (both_fit c i j p) (range_of p) h in fit_meetable v e)
        where
          found : (v : ℕ) → both_fit c i j p v ≡ true → any_below (range_of p) (both_fit c i j p) ≡ true
          found v h = any_found _ _ v (fits_both i j p v h).range h

          value : (s : ℕ) → some_value_fits c s i j p ≡ true → any_below (range_of p) (both_fit c i j p) ≡ true
          value s h =
              let (k, l, e) = any_some (value_fits c s i j p) _ h in
              ⊎_elim (found _) (found _) (or_either _ _ (and_right (eqb (context_parameter c s k) p) _ e))

    -- of compatible clauses a context can be named in which both hold
    compatible_some : (i j : ℕ) → compatible c i j ≡ true →
        (at : Context) × InRange at × (context_clause_holds at c i ≡ true) × (context_clause_holds at c j ≡ true)
    unfolding compatible value_of
    compatible_some i j h =
        let (m, fm) = value 0 (omega arith) in
        let (d, fd) = value 1 (omega arith) in
        let (z, fz) = value 2 (omega arith) in
        let at : Context = record { minute = m; day = d; zone = z; date = 0 } in
        let f = below_three (λ p. FitsBoth c i j p (value_of at p)) fm fd fz in
        (at, λ p l. (f p l).range, fits_clause at i (λ p l. (f p l).first), fits_clause at j (λ p l. (f p l).second))
      where
        value : (p : ℕ) → p < 3 → (v : ℕ) × FitsBoth c i j p v
        value p l =
            let (v, k, e) = any_some _ _ (sym (meetable_any i j p) ∙ all_at (meetable c i j) 3 h p l) in
            (v, fits_both i j p v e)

    -- clauses that both hold in a context are compatible
    compatible_found : (i j : ℕ) (at : Context) → InRange at →
        context_clause_holds at c i ≡ true → context_clause_holds at c j ≡ true → compatible c i j ≡ true
    unfolding compatible both_fit
    compatible_found i j at r h k =
        all_each (meetable c i j) 3
        (λ p l.
        meetable_any i j p
        ∙ any_found (both_fit c i j p) (range_of p) (value_of at p) (r p l)
        (and_both (lt-ltb _ _ (r p l)) (and_both (clause_fits at i p h) (clause_fits at j p k))))

    -- the law of related contexts: the clause-pair test says whether some one context satisfies both
    pub related_pairs : (x y : ℕ) → related c x y ≡ any_below (record_count contexts c + 1) (meets_some c x y)
    related_pairs x y = same_test _ _ to from
      where
        to : related c x y ≡ true → any_below (record_count contexts c + 1) (meets_some c x y) ≡ true
        to h =
            let (at, r, b) = related_some x y h in
            let (i, li, hi) = any_some (holds_by c at x) _ (sym (number_holds at x) ∙ and_left _ _ b) in
            let holds_y = sym (number_holds at y) ∙ and_right (context_holds at c x) _ b in
            let (j, lj, hj) = any_some (holds_by c at y) _ holds_y in
            let e = compatible_found i j at r (and_right (clause_of c x i) _ hi) (and_right (clause_of c y j) _ hj) in
            any_found (meets_some c x y) _ i li
            (and_both (and_left (clause_of c x i) _ hi)
            (any_found (joins c y i) _ j lj (and_both (and_left (clause_of c y j) _ hj) e)))

        from : any_below (record_count contexts c + 1) (meets_some c x y) ≡ true → related c x y ≡ true
        from h =
            let (i, li, hi) = any_some (meets_some c x y) _ h in
            let (j, lj, hj) = any_some (joins c y i) _ (and_right (clause_of c x i) _ hi) in
            let (at, r, ci, cj) = compatible_some i j (and_right (clause_of c y j) _ hj) in
            related_found x y at r
            (and_both (number_held at x i li (and_left (clause_of c x i) _ hi) ci)
            (number_held at y j lj (and_left (clause_of c y j) _ hj) cj))

-- the table C of an accepted base has whole records, as the law asks
pub whole_contexts : (b : List ℕ) → refusal_of b ≡ 0 →
    length (table_of b contexts) ≡ 16 * record_count contexts (table_of b contexts)
whole_contexts b ok = whole ∙ mul_comm (record_count contexts (table_of b contexts)) 16
  where
    whole : length (table_of b contexts) ≡ record_count contexts (table_of b contexts) * 16
    whole = let f = (accepted b ok).frame in rw (record_count_lem b f 4 (lit< tt)) (table_length b f 4 (lit< tt))
