-- The worked statements: by computing both sides, but the report's numbers by the laws of granting and of the smallest
-- number.
use Prim.Native.Nat.{ℕ, zero, suc, ◌*◌, ◌≤◌}
use mathlib.Core.Bool.{true, false, and-false}
use mathlib.Core.List.{List}
use mathlib.Core.Path.{◌≡◌, refl, sym}
use native.Mathlib.Omega.{arith}
use borrow.Author.Tests.{eqb-true, eq-eqb}
use lib.Dec.{eqb}
use lib.ListN.{length}
use Rattle.folds.proofs.Bools.{never_met, clash}
use Rattle.reader.specs.Bytes.{word16, word32}
use Rattle.reader.specs.Tables.{clauses, table_of, table_offset, table_count, table_start, role_count}
use Rattle.reader.specs.Tables.{length_bad, letters_bad, roles_bad, reserved_bad}
use Rattle.reader.specs.Tables.{tables_bad, trailer_bad, frame_refusal}
use Rattle.reader.specs.Codes.{code_product, parameter_ok, held_by}
use Rattle.reader.specs.Rules.{hierarchy_bad, users_bad, clause_slot_bad, clause_bad, clauses_bad}
use Rattle.reader.specs.Rules.{context_condition_bad, context_slot_bad, context_bad, contexts_bad}
use Rattle.reader.specs.Rules.{policy_bad, policies_bad}
use Rattle.reader.specs.Rules.{exclusions_bad, records_refusal, refusal_of}
use Rattle.weights.specs.declared.Context.{Context}
use Rattle.weights.specs.Contexts.{out_of_range, context_holds}
use Rattle.resolution.specs.Resolution.{rule_before}
use Rattle.weights.specs.Weights.{weight}
use Rattle.weights.specs.Acting.{may_act}
use Rattle.decision.specs.Conditions.{permission_holds}
use Rattle.decision.specs.Groups.{entry_count, entry_user, sum_of, length_refused, some_unknown, stands_before}
use Rattle.decision.specs.Groups.{some_twice, some_ineligible, some_out_of_date, some_weightless, members_refusal}
use Rattle.report.specs.Smallest.{smallest_by}
use Rattle.report.proofs.Least.{smallest_is, smallest_zero}
use Rattle.vouch.specs.Register.{register_refused}
use Rattle.vouch.specs.Vouching.{vouches, some_unvouched, vouched_refusal}
use Rattle.vouch.specs.Decision.{group_vouched, decision_vouched}
use Rattle.vouch.specs.Report.{led_vouched}
use Rattle.vouch.proofs.Granted.{GrantedWith, granted_with, led_granted, led_bytes}
use Rattle.shop.specs.Shop.{shop, permission, at, manager_and_clerk}
use Rattle.shop.specs.Dated.{seasonal}
use Rattle.shop.specs.Vouched.{register, two_statements, seven_bytes, least_for, Vouched}

-- the day and the time of the report
abbrev on_15 : Context
on_15 = at 600 0 0 15

-- the shop's one clause asks for two entries
one_too_few : (sum set : ℕ) → permission_holds (table_of shop clauses) permission 1 sum set ≡ false
unfolding shop word16 table_of table_offset table_count table_start role_count frame_refusal
    length_bad letters_bad trailer_bad roles_bad reserved_bad tables_bad permission_holds
one_too_few sum set = refl

two_or_more : (n sum set : ℕ) → 1 ≤ n → permission_holds (table_of shop clauses) permission n sum set ≡ true → 2 ≤ n
two_or_more zero sum set some holds = omega arith
two_or_more (suc zero) sum set some holds =
    clash (permission_holds (table_of shop clauses) permission 1 sum set) holds (one_too_few sum set)
two_or_more (suc (suc n)) sum set some holds = omega arith

nobody_for_3 : (u : ℕ) → vouches register 3 permission 15 u 3 ≡ false
unfolding register word16 vouches
nobody_for_3 u = and-false (eqb 2 u)

-- a granted group that q leads
module _ (q : ℕ) (g : List ℕ) (h : eqb (led_vouched register 3 shop on_15 q permission g) 0 ≡ true) where
  granted : (entry_user g 0 ≡ q) × GrantedWith register 3 shop on_15 permission g
  granted =
      let both_ways = led_granted q (decision_vouched register 3 shop on_15) permission g in
      let (first, by_register) = both_ways.0 (eqb-true _ _ h) in
      (first, ((granted_with register 3 shop on_15 permission g).0 by_register).2)

  whole_two : (length g ≡ 2 * entry_count g) × (2 ≤ entry_count g)
  whole_two =
      let group = granted.1.granted in
      (group.whole, two_or_more (entry_count g) _ _ group.some group.holds)

  second_vouches : vouches register 3 permission 15 (entry_user g 1) q ≡ true
  second_vouches =
      let (_, two) = whole_two in
      rw granted.0 at (granted.1.vouched 1 (omega arith) (omega arith))

two_for_manager : decision_vouched register 3 shop on_15 permission (manager_and_clerk 2) ≡ 0 → 2 ≡ least_for 0
unfolding smallest_by
two_for_manager computed =
    smallest_is _ (led_bytes register 3 shop on_15 0 permission) 2
    (λ some. (manager_and_clerk 2, eq-eqb _ _ computed, refl))
    (λ g h. let (whole, two) = whole_two 0 g h in (omega arith, omega arith))

none_for_3 : least_for 3 ≡ 0
unfolding smallest_by
none_for_3 =
    (smallest_zero _ (led_bytes register 3 shop on_15 3 permission)).1
    (λ g. never_met (eqb (led_vouched register 3 shop on_15 3 permission g) 0)
    (λ h. clash (vouches register 3 permission 15 (entry_user g 1) 3) (second_vouches 3 g h)
    (nobody_for_3 (entry_user g 1))))

pub vouched : Vouched
unfolding shop seasonal register two_statements seven_bytes
    word16 word32 table_of table_offset table_count table_start role_count frame_refusal
    length_bad letters_bad trailer_bad roles_bad reserved_bad tables_bad
    hierarchy_bad users_bad parameter_ok code_product clauses_bad clause_bad clause_slot_bad
    contexts_bad context_bad context_slot_bad context_condition_bad policies_bad policy_bad exclusions_bad
    records_refusal refusal_of
    context_holds rule_before weight
    out_of_range length_refused some_unknown some_twice stands_before some_ineligible held_by may_act members_refusal
    some_out_of_date some_weightless sum_of permission_holds
    register_refused vouches some_unvouched vouched_refusal group_vouched decision_vouched
vouched = record {
  lent = record { accepted = refl; register_fine = refl; threshold_fine = refl };
  day_before = refl;
  on_the_first = refl;
  between = refl;
  on_the_last = refl;
  day_after = refl;
  same_low_byte = refl;
  less_trust = refl;
  turned_round = refl;
  other_clerk = refl;
  none_stated = refl;
  alone = refl;
  not_together = refl;
  by_the_second = refl;
  not_whole = refl;
  trust_6 = refl;
  user_4 = refl;
  threshold_0 = refl;
  threshold_6 = refl;
  before_27 = refl;
  before_10 = refl;
  before_26 = refl;
  before_16 = refl;
  else_16 = refl;
  for_manager = sym (two_for_manager refl);
  for_other_clerk = none_for_3;
}
