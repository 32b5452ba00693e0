-- The marked cases hold: all but the related contexts by computing both sides. Days 0 to 65535 include every date in
-- range, so 24 refuses none of the groups.
use Prim.Native.Nat.{ℕ, ◌+◌}
use mathlib.Core.Bool.{or-false}
use mathlib.Core.Path.{◌≡◌, refl}
use mathlib.Core.List.{List}
use native.Mathlib.Omega.{arith}
use Rattle.folds.specs.Below.{any_below}
use Rattle.reader.specs.Bytes.{word16, word32}
use Rattle.reader.specs.Tables.{contexts, record_count, table_of, table_offset, table_count, table_start, role_count}
use Rattle.reader.specs.Tables.{length_bad, letters_bad, roles_bad, reserved_bad}
use Rattle.reader.specs.Tables.{tables_bad, trailer_bad, frame_refusal}
use Rattle.reader.specs.Codes.{code_product, parameter_ok, held_by}
use Rattle.reader.specs.Rules.{hierarchy_bad, users_bad, clause_slot_bad, clause_bad, clauses_bad}
use Rattle.reader.specs.Rules.{context_condition_bad, context_slot_bad, context_bad, contexts_bad}
use Rattle.reader.specs.Rules.{policy_bad, policies_bad}
use Rattle.reader.specs.Rules.{exclusions_bad, records_refusal, refusal_of}
use Rattle.reader.proofs.Accepted.{accepted}
use Rattle.weights.specs.Contexts.{out_of_range, context_holds}
use Rattle.weights.specs.Weights.{weight}
use Rattle.weights.proofs.Dates.{every_date}
use Rattle.weights.specs.Acting.{may_act}
use Rattle.decision.specs.Conditions.{permission_holds}
use Rattle.decision.specs.Groups.{sum_of, length_refused, some_unknown, stands_before, some_twice, some_ineligible}
use Rattle.decision.specs.Groups.{some_out_of_date, some_weightless, members_refusal}
use Rattle.decision.specs.Decision.{group_decision, decision_by}
use Rattle.related.specs.Related.{related, fits, both_fit, some_value_fits, meetable, compatible, meets_some}
use Rattle.related.proofs.Relating.{related_pairs, whole_contexts}
use Rattle.shop.specs.Shop.{shop, at, with_parameter, up_to600, from600, before600, before0, edges}
use Rattle.shop.specs.Marked.{Marked}

-- in an accepted base the test by pairs of clauses, which computes, says whether two context numbers are related
related_by : (b : List ℕ) → refusal_of b ≡ 0 → (x y : ℕ) →
    related (table_of b contexts) x y
    ≡ any_below (record_count contexts (table_of b contexts) + 1) (meets_some (table_of b contexts) x y)
related_by b ok = related_pairs (table_of b contexts) (accepted b ok).contexts (whole_contexts b ok)

pub marked : Marked
unfolding shop with_parameter edges
    word16 word32 table_of table_offset table_count table_start role_count frame_refusal
    length_bad letters_bad trailer_bad roles_bad reserved_bad tables_bad
    hierarchy_bad users_bad parameter_ok code_product clauses_bad clause_bad clause_slot_bad
    contexts_bad context_bad context_slot_bad context_condition_bad policies_bad policy_bad exclusions_bad
    records_refusal refusal_of
    context_holds weight
    out_of_range length_refused some_unknown some_twice stands_before some_ineligible held_by may_act members_refusal
    some_out_of_date some_weightless sum_of permission_holds group_decision decision_by
    fits both_fit some_value_fits meetable compatible
marked =
    record {
      roles = refl;
      offsets = refl;
      size = refl;
      passes = refl;
      parameters = refl;
      first_days = refl;
      last_days = refl;
      manager_600 = λ d z t. refl;
      buyer_600 = λ d z t. refl;
      clerk_600 = λ d z t. refl;
      manager_480 = λ d z t. refl;
      buyer_480 = λ d z t. refl;
      clerk_480 = λ d z t. refl;
      clerk_540 = λ d z t. refl;
      clerk_1020 = λ d z t. refl;
      clerk_539 = λ d z t. refl;
      clerk_1021 = λ d z t. refl;
      alone = λ d z t h. rw (h, every_date (at 600 d z t) h);
      alone_sum = λ d z t. refl;
      alone_entries = refl;
      two_with_2 = λ d z t h. rw (h, every_date (at 600 d z t) h);
      two_with_3 = λ d z t h. rw (h, every_date (at 600 d z t) h);
      sum_with_2 = λ d z t. refl;
      sum_with_3 = λ d z t. refl;
      three = λ d z t h. rw (h, every_date (at 600 d z t) h);
      three_sum = λ d z t. refl;
      weightless_with_2 = λ d z t h. rw (h, every_date (at 480 d z t) h);
      weightless_with_3 = λ d z t h. rw (h, every_date (at 480 d z t) h);
      twice = λ c h. rw h;
      may_not_act = λ c h. rw h;
      parameter_is = λ x. omega arith;
      parameter_roles = λ x. refl;
      parameter_1 = refl;
      parameter_105 = refl;
      parameter_0 = refl;
      parameter_9 = refl;
      parameter_11 = refl;
      edges_pass = refl;
      up_to_600 = λ c. simp or-false;
      from_600 = λ c. simp or-false;
      before_600 = λ c. simp or-false;
      before_0 = λ c. refl;
      met_at_600 = related_by edges refl up_to600 from600;
      apart_at_600 = related_by edges refl before600 from600;
      never = related_by edges refl before0 before0;
    }
