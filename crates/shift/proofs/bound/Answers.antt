-- `bound` meets its contract: the chain of refusals, then the bound by the table A and the juniors.
use Rattle.std.proofs.Common.{ℕ, Bool, true, false, List, ◌≡◌, ◌≤◌, ◌*◌, arith}
use mathlib.Core.Bool.{cond}
use Rattle.std.specs.Prelude.{Err}
use mathlib.Core.Path.{ap, sym, ◌∙◌}
use native.Mathlib.Nat.{suc-ne-zero}
use borrow.Author.Tests.{ltb-false}
use lib.Dec.{ltb}
use Rattle.folds.proofs.Bools.{refused, unrefused, or_right}
use Rattle.reader.specs.Tables.{hierarchy, policies, table_of, record_count, policy_count}
use Rattle.reader.specs.Fields.{policy_role, policy_weight}
use Rattle.reader.specs.Rules.{refusal_of}
use Rattle.reader.specs.declared.refusal.Refusal.TheVariants.{Change}
use Rattle.reader.proofs.Results.{refusal_pos, carried_on}
use Rattle.reader.proofs.Answered.{answered_refused, answered_done_lem}
use Rattle.weights.specs.Setting.{Juniors}
use Rattle.decision.specs.Decision.{members_of}
use Rattle.decision.specs.Members.{Seated}
use Rattle.decision.proofs.Granting.{members_same}
use Rattle.shift.specs.Counting.{entries_at_or_above}
use Rattle.shift.specs.Shift.{distance, bound_of, change_refused, bound_refusal}
use Rattle.shift.proofs.Laws.{touched_by, change_allowed}
use Rattle.shift.proofs.bound.Goals as goal

-- what is learnt of the group where neither 1 to 9 nor 12 to 15 apply
record Known (b g : List ℕ) : Type 0 where
  ok : refusal_of b ≡ 0
  none : members_of b g ≡ 0

known : {a b g : List ℕ} → 0 ≡ refusal_of b → a ≡ b → 0 ≡ members_of a g → Known b g
known {g = g} checked same fine = record { ok = sym checked; none = sym (members_same g same fine) }

-- the refusals, in the order of the chain
module _ (b : List ℕ) (i w : ℕ) (g : List ℕ) where
  by_check : {n : ℕ} → n ≡ refusal_of b → (n ≡ 0 → ⊥) → n ≡ bound_refusal b i w g
  unfolding bound_refusal
  by_check is some = is ∙ refused _ (λ h. some (is ∙ h))

  by_members : {n : ℕ} → refusal_of b ≡ 0 → n ≡ members_of b g → (n ≡ 0 → ⊥) → n ≡ bound_refusal b i w g
  unfolding bound_refusal
  by_members ok is some = is ∙ refused _ (λ h. some (is ∙ h)) ∙ sym (unrefused ok)

  module _ (k : Known b g) where
    rest : bound_refusal b i w g ≡ cond (change_refused (policy_count b) i w) 21 0
    unfolding bound_refusal
    rest = unrefused k.ok ∙ unrefused k.none

    by_21 : change_refused (policy_count b) i w ≡ true → 21 ≡ bound_refusal b i w g
    by_21 e = sym (rest ∙ rw e)

    by_none : change_refused (policy_count b) i w ≡ false → bound_refusal b i w g ≡ 0
    by_none e = rest ∙ rw e

-- 21 by the number of policies
by_count : (d : List ℕ) {n : ℕ} {t : Bool} (i w : ℕ) → n ≡ record_count policies d → t ≡ change_refused n i w →
    change_refused (record_count policies d) i w ≡ t
by_count d i w e h = rw (← e) (sym h)

-- a weight that 21 doesn't refuse is a byte
small : (n i w : ℕ) → change_refused n i w ≡ false → w ≤ 5
small n i w e = ltb-false _ _ (or_right (ltb w 1) _ (change_allowed n i w e).1)

bound_by : (b juniors a : List ℕ) (i w : ℕ) (g : List ℕ) {k : ℕ} {m : List ℕ} → a ≡ table_of b policies →
    Juniors (table_of b hierarchy) juniors → m ≡ g → Seated m →
    k ≡ distance (policy_weight a i) w * entries_at_or_above juniors (policy_role a i) m → k ≡ bound_of b i w g
unfolding bound_of
bound_by b juniors a i w g e are same seated h =
    let s : Seated g = rw same at seated in
    rw (same, e, touched_by b juniors are i g s.low) at h

pub returns-in_err-base : goal.returns-in_err-base
returns-in_err-base c =
    carried_on _ _ c.from_residual.ensures.1
    ∙ answered_refused _ _ (by_check _ _ _ _ c.in_err-base.ensures.number (refusal_pos _)) (refusal_pos _)

pub returns-in_err-members : goal.returns-in_err-members
returns-in_err-members c =
    let e = c.in_ok-base.ensures in
    let is = members_same c.args.group.now (c.of-acting.ensures ∙ e.same) c.in_err-members.ensures.number in
    carried_on _ _ c.from_residual-in_err-members.ensures.1
    ∙ answered_refused _ _ (by_members _ _ _ _ (sym e.number) is (refusal_pos _)) (refusal_pos _)

pub returns-then-change_refused : goal.returns-then-change_refused
returns-then-change_refused c =
    let e = c.in_ok-base.ensures in
    let k = known e.number (c.of-acting.ensures ∙ e.same) c.in_ok-members.ensures.number in
    let table = c.policies-a.ensures.policies ∙ ap (λ b. table_of b policies) e.same in
    let count = c.count.ensures.count.0 ∙ ap (record_count policies) table in
    let table_a = table_of c.args.base.now policies in
    let bad = by_count table_a c.args.policy c.args.weight count c.if-change_refused.ensures in
    carried_on Change (Err _) c.into.ensures ∙ answered_refused _ _ (by_21 _ _ _ _ k bad) (suc-ne-zero 20)

pub overflow_cast-weight : goal.overflow_cast-weight
overflow_cast-weight c = let most = small _ c.args.policy c.args.weight (sym c.if-change_refused.ensures) in omega arith

pub bound_of-requires : goal.bound_of-requires
bound_of-requires c =
    let allowed = change_allowed _ c.args.policy c.args.weight (sym c.if-change_refused.ensures) in
    rw c.count.ensures.count.0 at allowed.0

pub returns : goal.returns
returns c =
    let e = c.in_ok-base.ensures in
    let same = c.of-acting.ensures ∙ e.same in
    let k = known e.number same c.in_ok-members.ensures.number in
    let table = c.policies-a.ensures.policies ∙ ap (λ b. table_of b policies) e.same in
    let count = c.count.ensures.count.0 ∙ ap (record_count policies) table in
    let table_a = table_of c.args.base.now policies in
    let good = by_count table_a c.args.policy c.args.weight count c.if-change_refused.ensures in
    answered_done_lem _ _ (by_none _ _ _ _ k good)
    (bound_by _ _ _ c.args.policy c.args.weight c.args.group.now table (rw same at c.juniors.ensures)
    c.in_ok-members.ensures.same c.in_ok-members.ensures.seated c.bound_of.ensures)
