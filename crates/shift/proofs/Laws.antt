-- The bound: what its answer says, and the theorem in its words.
use Prim.Native.Nat.{ℕ, ◌<◌, ◌≤◌}
use mathlib.Core.Bool.{true, false, not, or-true}
use mathlib.Core.List.{List}
use mathlib.Core.Logic.{◌⊎◌, inl, inr, ⊎_elim, ◌↔◌}
use mathlib.Core.Path.{◌≡◌, refl, sym, ◌∙◌}
use native.Mathlib.Omega.{arith}
use native.Mathlib.Nat.{mul-le-mul}
use borrow.Author.Tests.{eqb-true, eq-eqb, ne_eqb, ltb-true, ltb-false, not-false, lt-ltb}
use lib.Dec.{ltb, eqb}
use Rattle.folds.proofs.Bools.{or_left, or_right, or_first, or_either, met_or_not, none_met, none_refused}
use Rattle.folds.proofs.Numbers.{count_same, count_le}
use Rattle.reader.specs.Tables.{hierarchy, policies, permission_count, policy_count, role_count, user_count, table_of}
use Rattle.reader.specs.Fields.{policy_role}
use Rattle.reader.specs.Rules.{outside, refusal_of}
use Rattle.reader.specs.Answers.{answered}
use Rattle.reader.proofs.Frame.{roles_range}
use Rattle.reader.proofs.Accepted.{accepted, policy_fine}
use Rattle.reader.proofs.Answered.{refusal_in, count_in}
use Rattle.weights.specs.declared.Context.{Context}
use Rattle.weights.specs.Contexts.{out_of_range}
use Rattle.weights.specs.Seniority.{Chain}
use Rattle.weights.specs.Acting.{may_act}
use Rattle.weights.specs.Setting.{Juniors}
use Rattle.weights.proofs.Chains.{senior_chain}
use Rattle.decision.specs.Groups.{entry_count, entry_role, group_refusal}
use Rattle.decision.specs.Decision.{members_of, group_decision, decision_by, decision_of}
use Rattle.decision.proofs.Granting.{Members, members_of_lem, short_enough}
use Rattle.shift.specs.Shift.{distance, weight_in, with_weight, OneWeight, role_or_senior, touched}
use Rattle.shift.specs.Shift.{bound_of, change_refused, bound_refusal, bound_answer, Bounded}
use Rattle.shift.specs.Counting.{at_or_above, entries_at_or_above}
use Rattle.shift.proofs.Replaced.{new_weight, still_accepted}
use Rattle.shift.proofs.Shift.{shifts}

-- in words: the role is the policy's, or a chain of one or more H records leads from it to the policy's
pub role_or_senior_lem : (b : List ℕ) → refusal_of b ≡ 0 → (i r : ℕ) →
    (role_or_senior b i r ≡ true) ↔
    ((r ≡ policy_role (table_of b policies) i) ⊎ Chain (table_of b hierarchy) r (policy_role (table_of b policies) i))
unfolding role_or_senior
role_or_senior_lem b ok i r =
    let q = policy_role (table_of b policies) i in
    let small = (roles_range b (accepted b ok).frame).1 in
    let chain = senior_chain (role_count b) (table_of b hierarchy) small (accepted b ok).hierarchy r q in (
      λ e. ⊎_elim (λ s. inl (eqb-true r q s)) (λ s. inr (chain.0 s)) (or_either (eqb r q) _ e),
      λ s. ⊎_elim (λ e. or_first _ (eq-eqb r q e)) (λ c. rw (chain.1 c, or-true)) s,
    )

-- 1 to 9 are given as the decision gives them, for any permission and context
pub as_checked : (b g : List ℕ) → (refusal_of b ≡ 0 → ⊥) → (i w : ℕ) (at : Context) (p : ℕ) →
    bound_refusal b i w g ≡ decision_of b at p g
unfolding bound_refusal decision_by
as_checked b g bad i w at p = rw (ne_eqb _ _ bad)

-- 12 to 15 are given as the decision gives them, for any permission that is there and any context in range
pub as_decided : (b g : List ℕ) → refusal_of b ≡ 0 → (members_of b g ≡ 0 → ⊥) → (i w : ℕ) (at : Context) (p : ℕ) →
    p < permission_count b → out_of_range at ≡ false → bound_refusal b i w g ≡ decision_of b at p g
unfolding bound_refusal decision_by group_decision group_refusal
as_decided b g ok some i w at p there in_range =
    rw (ok, lt-ltb _ _ there, in_range, ne_eqb _ _ some)

-- the entries counted by the juniors of a base are those that its hierarchy tells
pub touched_by : (b juniors : List ℕ) → Juniors (table_of b hierarchy) juniors → (i : ℕ) (g : List ℕ) →
    ((k : ℕ) → k < entry_count g → entry_role g k < 8) →
    entries_at_or_above juniors (policy_role (table_of b policies) i) g ≡ touched b i g
unfolding entries_at_or_above touched role_or_senior
touched_by b juniors are i g low =
    let q = policy_role (table_of b policies) i in
    count_same (λ k. at_or_above juniors q (entry_role g k)) (λ k. role_or_senior b i (entry_role g k)) (entry_count g)
    (λ k l. rw (are.role (entry_role g k) q (low k l)))

-- where 21 doesn't apply, the policy is there and the weight is 1 to 5
pub change_allowed : (n i w : ℕ) → change_refused n i w ≡ false → (i < n) × (outside 1 5 w ≡ false)
unfolding change_refused
change_allowed n i w h = (ltb-true _ _ (not-false _ (or_left _ _ h)), or_right (not (ltb i n)) _ h)

module _ (b : List ℕ) (i w : ℕ) (g : List ℕ) where
  -- the decision's refusals 1 to 9 and 12 to 15, and 21, don't apply
  record Allowed : Type 0 where
    ok : refusal_of b ≡ 0
    members : members_of b g ≡ 0
    there : i < policy_count b
    fits : outside 1 5 w ≡ false

  allowed : bound_refusal b i w g ≡ 0 → Allowed
  unfolding bound_refusal
  allowed h =
      let (ok, rest) = none_refused (refusal_of b) _ h in
      let (members, last) = none_refused (members_of b g) _ rest in
      let (there, fits) = change_allowed _ i w (none_met _ 20 last).0 in
      record { ok = ok; members = members; there = there; fits = fits }

  -- the bound holds: the law that joins the call to the theorem
  pub bounded : (bound_answer b i w g).refusal ≡ 0 → Bounded b i w g
  unfolding bound_of
  bounded h =
      let none = sym (refusal_in (bound_refusal b i w g) (bound_of b i w g)) ∙ h in
      let count = count_in (bound_refusal b i w g) (bound_of b i w g) none in
      let a = allowed none in
      let new = still_accepted b a.ok i a.there w a.fits in
      let one : OneWeight b (with_weight b i w) i =
      record { first = a.ok; second = new; there = a.there; replaced = (w, refl) } in
      let is = new_weight b a.ok i a.there w in
      let theorem = shifts b (with_weight b i w) i one in
      record { accepted = new; sums = λ rules at p. rw count (rw is at (theorem.sum_shifts rules at p g)) }

  -- weights of 1 to 5 differ by at most 4, and a group has at most 6 entries
  small : bound_refusal b i w g ≡ 0 → bound_of b i w g ≤ 24
  unfolding bound_of touched
  small h =
      let a = allowed h in
      let fine = policy_fine _ _ (table_of b policies) i (accepted b a.ok).policies a.there in
      let at_least : 1 ≤ w = ltb-false _ _ (or_left _ _ a.fits) in
      let at_most : w ≤ 5 = ltb-false _ _ (or_right (ltb w 1) _ a.fits) in
      let d_le : distance (weight_in b i) w ≤ 4 = omega (arith, fine.weight_pos, fine.weight_le) in
      let m : Members (user_count b) (role_count b) (may_act b) g = members_of_lem _ _ _ g a.members in
      let few = short_enough g m.whole in
      let counted = count_le (λ k. role_or_senior b i (entry_role g k)) (entry_count g) in
      mul-le-mul {n₂ = 4} {m₂ = 6} d_le (omega arith)

  -- the count is at most 24
  pub bound_le : (bound_answer b i w g).count ≤ 24
  unfolding answered
  bound_le =
      ⊎_elim (λ e. rw e (small (eqb-true _ _ e))) (λ e. rw e (omega arith)) (met_or_not (eqb (bound_refusal b i w g) 0))
