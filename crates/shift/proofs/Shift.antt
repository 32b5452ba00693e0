-- The theorem of request Three: how much the sums of weights differ, where one policy's weight does, by the rules of
-- every list and without one. The changed policy counts only for its role, so only that role's own weight, and what it
-- hands on, shift, by at most what the policy's weight does.
use Prim.Native.Nat.{ℕ, zero, suc, ◌+◌, ◌*◌, ◌<◌, ◌≤◌}
use mathlib.Core.Bool.{Bool, true, false, cond}
use mathlib.Core.List.{List}
use mathlib.Core.Logic.{⊎_elim}
use mathlib.Core.Path.{◌≡◌, refl, ap, sym}
use native.Mathlib.Omega.{arith}
use native.Mathlib.Nat.{le_refl, mul-add, mul-one}
use borrow.Author.Tests.{eqb-true, eqb-false}
use lib.Dec.{lit<, eqb}
use Rattle.folds.specs.Below.{sum_below, count_below}
use Rattle.folds.proofs.Bools.{and_left, or_left, or_right, met_or_not, never_met}
use Rattle.folds.proofs.Numbers.{sum_same, sum_pick}
use Rattle.reader.specs.Tables.{hierarchy, contexts, policies, role_count, table_of, record_count, policy_count}
use Rattle.reader.specs.Fields.{policy_role, policy_weight}
use Rattle.reader.specs.Rules.{refusal_of}
use Rattle.reader.proofs.Frame.{roles_range}
use Rattle.reader.proofs.Accepted.{accepted, policy_fine}
use Rattle.weights.specs.declared.Context.{Context}
use Rattle.weights.specs.Contexts.{context_holds}
use Rattle.weights.specs.Seniority.{senior_to}
use Rattle.weights.specs.Weights.{candidate, chosen_weight, any_type, type_one, own, inh, share, weight}
use Rattle.weights.proofs.Chains.{senior_down}
use Rattle.decision.specs.Groups.{entry_count, entry_role, sum_of}
use Rattle.shift.specs.Shift.{distance, weight_in, with_weight, OneWeight, sum_by}
use Rattle.shift.specs.Shift.{role_or_senior, touched, Shifts}
use Rattle.shift.proofs.Replaced.{replaced_in, same_choice, other_weight, its_weight}
use Rattle.shift.proofs.Replaced.{roles_stay, table_stays, policies_replaced, new_weight}
use Rattle.shift.proofs.Overriding.{chosen_within}

-- sums whose numbers differ by at most d where the test holds, and not elsewhere
module _ (f g : ℕ → ℕ) (t : ℕ → Bool) (d : ℕ)
    (shifts : (k : ℕ) → t k ≡ true → distance (f k) (g k) ≤ d) (still : (k : ℕ) → t k ≡ false → f k ≡ g k) where
  sum_shift : (n : ℕ) → distance (sum_below n f) (sum_below n g) ≤ d * count_below n t
  unfolding sum_below count_below
  sum_shift zero = omega arith
  sum_shift (suc n) =
      let before = sum_shift n in
      ⊎_elim
      (λ e. let one = shifts n e in rw (e, mul-add, mul-one) (omega arith))
      (λ e. let none = still n e in rw e (omega arith))
      (met_or_not (t n))

-- the weight that counts, in a table A and in it with the weight of policy i replaced
module _ (rules : List ℕ) (in_force f : ℕ → Bool) (a : List ℕ) (i w : ℕ) (there : i < record_count policies a)
    (r p : ℕ) where
  abbrev before : ℕ
  before = chosen_weight rules in_force f a (record_count policies a) r p

  abbrev after : ℕ
  after = chosen_weight rules in_force f (replaced_in a i w) (record_count policies a) r p

  -- no policy's weight shifts by more than the changed one's
  chosen_shift : distance before after ≤ distance (policy_weight a i) w
  chosen_shift =
      chosen_within rules in_force f r p (same_choice a i w) (distance (policy_weight a i) w)
      (λ k l on. ⊎_elim
      (λ e. rw (eqb-true k i e, its_weight a i w there) (le_refl _))
      (λ e. let same = other_weight a i w k (eqb-false k i e) in omega arith)
      (met_or_not (eqb k i)))

  its_role : (k : ℕ) → candidate in_force f a r p k ≡ true → r ≡ policy_role a k
  its_role k on = sym (eqb-true _ _ (and_left _ _ (and_left _ _ on)))

  -- of another role than the changed one's no policy's weight shifts
  chosen_still : (r ≡ policy_role a i → ⊥) → before ≡ after
  chosen_still other =
      let none = chosen_within rules in_force f r p (same_choice a i w) 0 (λ k l on.
      let same = other_weight a i w k (λ q. other (rw q at (its_role k on))) in
      omega arith) in
      omega arith

-- an accepted base, and the same with w as the weight of policy i
module _ (b : List ℕ) (ok : refusal_of b ≡ 0) (i : ℕ) (there : i < policy_count b) (w : ℕ) where
  abbrev c : List ℕ
  c = with_weight b i w

  abbrev d : ℕ
  d = distance (weight_in b i) w

  -- the policy's role
  abbrev q : ℕ
  q = policy_role (table_of b policies) i

  same_hierarchy : table_of c hierarchy ≡ table_of b hierarchy
  same_hierarchy = table_stays b ok i there w hierarchy (lit< tt) (λ e. omega arith)

  same_contexts : table_of c contexts ≡ table_of b contexts
  same_contexts = table_stays b ok i there w contexts (lit< tt) (λ e. omega arith)

  same_number : record_count policies (replaced_in (table_of b policies) i w) ≡ policy_count b
  same_number = sym (same_choice (table_of b policies) i w).count

  -- a senior of the policy's role is another role
  senior_other : (r : ℕ) → senior_to (table_of b hierarchy) r q ≡ true → r ≡ q → ⊥
  senior_other r e s =
      let small = (roles_range b (accepted b ok).frame).1 in
      let l = (senior_down (role_count b) (table_of b hierarchy) small (accepted b ok).hierarchy r q e).0 in
      omega arith

  role_there : q < role_count b
  role_there = (policy_fine _ _ (table_of b policies) i (accepted b ok).policies there).role

  module _ (rules : List ℕ) (at : Context) (p : ℕ) where
    -- the weight of the policy that counts for role r, among those whose type passes the filter f
    abbrev counted : List ℕ → (ℕ → Bool) → ℕ → ℕ
    counted x f r =
        chosen_weight rules (context_holds at (table_of x contexts)) f (table_of x policies) (policy_count x) r p

    counted_shift : (f : ℕ → Bool) (r : ℕ) → distance (counted b f r) (counted c f r) ≤ d
    counted_shift f r =
        rw (same_contexts, policies_replaced b ok i there w, same_number)
        (chosen_shift rules (context_holds at (table_of b contexts)) f (table_of b policies) i w there r p)

    counted_still : (f : ℕ → Bool) (r : ℕ) → (r ≡ q → ⊥) → counted b f r ≡ counted c f r
    counted_still f r other =
        rw (same_contexts, policies_replaced b ok i there w, same_number)
        (chosen_still rules (context_holds at (table_of b contexts)) f (table_of b policies) i w there r p other)

    own_shift : (r : ℕ) → distance (own rules b at r p) (own rules c at r p) ≤ d
    unfolding own
    own_shift r = counted_shift any_type r

    own_still : (r : ℕ) → (r ≡ q → ⊥) → own rules b at r p ≡ own rules c at r p
    unfolding own
    own_still r other = counted_still any_type r other

    inh_shift : (r : ℕ) → distance (inh rules b at r p) (inh rules c at r p) ≤ d
    unfolding inh
    inh_shift r = counted_shift type_one r

    inh_still : (r : ℕ) → (r ≡ q → ⊥) → inh rules b at r p ≡ inh rules c at r p
    unfolding inh
    inh_still r other = counted_still type_one r other

    -- what a role other than the policy's hands on stays
    share_still : (r j : ℕ) → (j ≡ q → ⊥) → share rules b at p r j ≡ share rules c at p r j
    share_still r j other = rw (same_hierarchy, inh_still j other)

    -- what the policy's role hands on shifts by at most the difference; who isn't its senior gets nothing
    share_shift : (r : ℕ) → distance (share rules b at p r q) (share rules c at p r q) ≤ d
    share_shift r = rw same_hierarchy (by (senior_to (table_of b hierarchy) r q))
      where
        by : (t : Bool) → distance (cond t (inh rules b at q p) 0) (cond t (inh rules c at q p) 0) ≤ d
        by true = inh_shift q
        by false = omega arith

    share_none : (r : ℕ) → senior_to (table_of b hierarchy) r q ≡ false →
        share rules b at p r q ≡ share rules c at p r q
    share_none r e = rw (same_hierarchy, e)

    -- the shares of the roles other than the policy's
    abbrev others : List ℕ → ℕ → ℕ
    others b' r = sum_below (role_count b) (λ j. cond (eqb j q) 0 (share rules b' at p r j))

    same_others : (r : ℕ) → others b r ≡ others c r
    same_others r =
        sum_same (λ j. cond (eqb j q) 0 (share rules b at p r j)) (λ j. cond (eqb j q) 0 (share rules c at p r j))
        (role_count b)
        (λ j l. ⊎_elim (λ e. rw e) (λ e. rw e (share_still r j (eqb-false j q e))) (met_or_not (eqb j q)))

    -- a weight is own, the policy's role's share and the other shares
    parts : (r : ℕ) → (weight rules b at r p ≡ own rules b at r p + (share rules b at p r q + others b r))
        × (weight rules c at r p ≡ own rules c at r p + (share rules c at p r q + others c r))
    unfolding weight
    parts r = (
      ap (λ (x : ℕ). own rules b at r p + x) (sum_pick (share rules b at p r) (role_count b) q role_there),
      rw (roles_stay b ok i there w)
          (ap (λ (x : ℕ). own rules c at r p + x) (sum_pick (share rules c at p r) (role_count b) q role_there)),
    )

    -- the weight of a role that is neither the policy's nor senior to it stays
    still : (r : ℕ) → (r ≡ q → ⊥) → senior_to (table_of b hierarchy) r q ≡ false →
        weight rules b at r p ≡ weight rules c at r p
    still r other below =
        let (x, y) = parts r in
        rw (x, y, own_still r other, share_none r below, same_others r)

    -- that of the policy's role shifts by its own weight, that of a senior by what the policy's role hands on
    shift_itself : distance (weight rules b at q p) (weight rules c at q p) ≤ d
    shift_itself =
        let (x, y) = parts q in
        let none = share_none q (never_met _ (λ e. senior_other q e refl)) in
        let o = own_shift q in
        let s = same_others q in
        rw (x, y) (omega arith)

    shift_senior : (r : ℕ) → senior_to (table_of b hierarchy) r q ≡ true →
        distance (weight rules b at r p) (weight rules c at r p) ≤ d
    shift_senior r above =
        let (x, y) = parts r in
        let o = own_still r (senior_other r above) in
        let h = share_shift r in
        let s = same_others r in
        rw (x, y) (omega arith)

    -- so no weight shifts by more
    shift_any : (r : ℕ) → distance (weight rules b at r p) (weight rules c at r p) ≤ d
    shift_any r =
        ⊎_elim (λ e. rw (eqb-true r q e) shift_itself)
        (λ e. ⊎_elim (shift_senior r)
        (λ below. let same = still r (eqb-false r q e) below in omega arith)
        (met_or_not (senior_to (table_of b hierarchy) r q)))
        (met_or_not (eqb r q))

    still_neither : (r : ℕ) → role_or_senior b i r ≡ false → weight rules b at r p ≡ weight rules c at r p
    unfolding role_or_senior
    still_neither r e = still r (eqb-false _ _ (or_left _ _ e)) (or_right (eqb r q) _ e)

  -- both bases tell the same entries
  same_touched : (g : List ℕ) → touched b i g ≡ touched c i g
  unfolding touched role_or_senior
  same_touched g =
      let same = (same_choice (table_of b policies) i w).role i there in
      rw (same_hierarchy, policies_replaced b ok i there w, ← same)

-- two accepted bases that differ only in the weight of policy i
module _ (b c : List ℕ) (i : ℕ) (one : OneWeight b c i) where
  -- the difference of the two weights
  abbrev difference : ℕ
  difference = distance (weight_in b i) (weight_in c i)

  role_shifts : (rules : List ℕ) (at : Context) (p r : ℕ) → role_or_senior b i r ≡ true →
      distance (weight rules b at r p) (weight rules c at r p) ≤ difference
  role_shifts rules at p r e =
      let (w, is) = one.replaced in
      rw (is, new_weight b one.first i one.there w) (shift_any b one.first i one.there w rules at p r)

  role_stays : (rules : List ℕ) (at : Context) (p r : ℕ) → role_or_senior b i r ≡ false →
      weight rules b at r p ≡ weight rules c at r p
  role_stays rules at p r e =
      let (w, is) = one.replaced in
      rw is (still_neither b one.first i one.there w rules at p r e)

  sum_shifts : (rules : List ℕ) (at : Context) (p : ℕ) (g : List ℕ) →
      distance (sum_by rules b at p g) (sum_by rules c at p g) ≤ difference * touched b i g
  unfolding sum_of touched
  sum_shifts rules at p g =
      sum_shift (λ k. weight rules b at (entry_role g k) p) (λ k. weight rules c at (entry_role g k) p)
      (λ k. role_or_senior b i (entry_role g k)) difference
      (λ k e. role_shifts rules at p (entry_role g k) e) (λ k e. role_stays rules at p (entry_role g k) e)
      (entry_count g)

  -- the number of entries is the same by either base
  pub touched_same : (g : List ℕ) → touched b i g ≡ touched c i g
  touched_same g = let (w, is) = one.replaced in rw is (same_touched b one.first i one.there w g)

-- the theorem
pub shifts : (b c : List ℕ) (i : ℕ) → OneWeight b c i → Shifts b c i
shifts b c i one = record {
  role_shifts = role_shifts b c i one;
  role_stays = role_stays b c i one;
  sum_shifts = sum_shifts b c i one;
}
