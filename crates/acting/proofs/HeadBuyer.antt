-- A 0 may become a number: the head buyer's field.
use Prim.Native.Nat.{ℕ, zero, suc, ◌<◌}
use mathlib.Core.Bool.{true, false}
use mathlib.Core.Path.{◌≡◌, refl}
use mathlib.Core.List.{List, [], ◌∷◌}
use native.Mathlib.Omega.{arith}
use borrow.Author.Tests.{eqb-true, eq-eqb}
use lib.Dec.{eqb}
use Rattle.folds.proofs.Bools.{never_met, clash}
use Rattle.reader.specs.Bytes.{word16, word32}
use Rattle.reader.specs.Tables.{clauses, table_of, table_offset, table_count, table_start, role_count, user_count}
use Rattle.reader.specs.Tables.{length_bad, letters_bad, roles_bad, reserved_bad}
use Rattle.reader.specs.Tables.{tables_bad, trailer_bad, frame_refusal}
use Rattle.reader.specs.Codes.{code_product, parameter_ok, held_by, holds}
use Rattle.reader.specs.Rules.{hierarchy_bad, users_bad, clause_slot_bad, clause_bad, clauses_bad, contexts_bad}
use Rattle.reader.specs.Rules.{policy_bad, policies_bad, exclusions_bad, records_refusal, refusal_of}
use Rattle.weights.specs.declared.Context.{Context}
use Rattle.weights.specs.Contexts.{out_of_range, context_holds}
use Rattle.weights.specs.Weights.{weight}
use Rattle.weights.proofs.Dates.{every_date}
use Rattle.weights.specs.Acting.{may_act}
use Rattle.decision.specs.Conditions.{permission_holds}
use Rattle.decision.specs.Groups.{entry_count, entry_user, entry_role, sum_of, length_refused, some_unknown}
use Rattle.decision.specs.Groups.{stands_before, some_twice}
use Rattle.decision.specs.Groups.{some_ineligible, some_out_of_date, some_weightless, members_refusal}
use Rattle.decision.specs.Decision.{group_decision, decision_by, decision_of}
use Rattle.decision.proofs.Granting.{granting, head_passed}
use Rattle.report.specs.Smallest.{smallest_by, smallest_of}
use Rattle.report.proofs.Least.{of_decision, smallest_zero, smallest_least}
use Rattle.acting.specs.Readings.{decision_by_holding, smallest_by_holding, head_buyer, BecomesOne}
use Rattle.acting.proofs.Wider.{of_held}

-- what computing shows of the base
record Computed : Type 0 where
  passes : refusal_of head_buyer ≡ 0
  users : user_count head_buyer ≡ 1
  roles : role_count head_buyer ≡ 2
  manager_alone : holds head_buyer 0 1 ≡ false
  weightless : (at : Context) → weight [] head_buyer at 0 0 ≡ 0
  granted : (at : Context) → out_of_range at ≡ false → decision_of head_buyer at 0 (0 ∷ 1 ∷ []) ≡ 0

computed : Computed
unfolding head_buyer
    word16 word32 table_of table_offset table_count table_start role_count frame_refusal
    length_bad letters_bad trailer_bad roles_bad reserved_bad tables_bad
    hierarchy_bad users_bad parameter_ok code_product clauses_bad clause_bad clause_slot_bad contexts_bad policies_bad
    policy_bad
    exclusions_bad records_refusal refusal_of held_by may_act context_holds weight
    length_refused some_unknown some_twice stands_before some_ineligible members_refusal some_out_of_date
    some_weightless sum_of permission_holds group_decision decision_by
computed = record {
  passes = refl;
  users = refl;
  roles = refl;
  manager_alone = refl;
  weightless = λ at. refl;
  granted = λ at in_range. rw (in_range, every_date at in_range);
}

-- whoever holds a role holds the manager role, which has no weight
held_weightless : (at : Context) (u r : ℕ) → u < 1 → r < 2 → holds head_buyer u r ≡ true →
    0 < weight [] head_buyer at r 0 → ⊥
held_weightless at zero zero user role held heavy = let z = computed.weightless at in omega arith
held_weightless at zero (suc zero) user role held heavy = clash (holds head_buyer 0 1) held computed.manager_alone
held_weightless at zero (suc (suc r)) user role held heavy = omega arith
held_weightless at (suc u) r user role held heavy = omega arith

-- so no group is granted by holding alone
none_held : (at : Context) (g : List ℕ) → decision_by_holding head_buyer at 0 g ≡ 0 → ⊥
none_held at g h =
    let left = (head_passed head_buyer at 0 _ h).3 in
    let d = (granting _ _ _ _ _ (permission_holds (table_of head_buyer clauses) 0) g).0 left in
    let first : 0 < entry_count g = d.some in
    let user : entry_user g 0 < 1 = rw computed.users at (d.user 0 first) in
    let role : entry_role g 0 < 2 = rw computed.roles at (d.role 0 first) in
    held_weightless at (entry_user g 0) (entry_role g 0) user role (d.acting 0 first) (d.heavy 0 first)

zero_held : (at : Context) → smallest_by_holding head_buyer at 0 ≡ 0
unfolding smallest_by_holding
zero_held at =
    (smallest_zero _ (of_held head_buyer at 0)).1
    (λ g. never_met (eqb (decision_by_holding head_buyer at 0 g) 0) (λ h. none_held at g (eqb-true _ _ h)))

one_acting : (at : Context) → out_of_range at ≡ false → smallest_of head_buyer at 0 ≡ 1
unfolding smallest_by
one_acting at in_range =
    let granted = eq-eqb _ _ (computed.granted at in_range) in
    let (above, most) = smallest_least _ (of_decision [] head_buyer at 0) (0 ∷ 1 ∷ []) granted in
    omega arith

pub becomes_one : BecomesOne
becomes_one = record { passes = computed.passes; by_holding = zero_held; by_acting = one_acting }
