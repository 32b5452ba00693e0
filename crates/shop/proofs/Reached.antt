-- The bound on the small shop: by computing both sides.
use mathlib.Core.Path.{refl}
use Rattle.reader.specs.Answers.{answered}
use Rattle.reader.specs.Bytes.{word16, word32}
use Rattle.reader.specs.Tables.{table_of, table_offset, table_count, table_start, role_count}
use Rattle.reader.specs.Tables.{length_bad, letters_bad, roles_bad, reserved_bad}
use Rattle.reader.specs.Tables.{tables_bad, trailer_bad, frame_refusal}
use Rattle.reader.specs.Codes.{code_product, parameter_ok, held_by}
use Rattle.reader.specs.Rules.{hierarchy_bad, users_bad, clause_slot_bad, clause_bad, clauses_bad}
use Rattle.reader.specs.Rules.{context_condition_bad, context_slot_bad, context_bad, contexts_bad}
use Rattle.reader.specs.Rules.{policy_bad, policies_bad}
use Rattle.reader.specs.Rules.{exclusions_bad, records_refusal, refusal_of}
use Rattle.weights.specs.Contexts.{context_holds}
use Rattle.resolution.specs.Resolution.{rule_before}
use Rattle.weights.specs.Weights.{weight}
use Rattle.weights.specs.Acting.{may_act}
use Rattle.decision.specs.Groups.{sum_of, length_refused, some_unknown, stands_before, some_twice, some_ineligible}
use Rattle.decision.specs.Groups.{members_refusal}
use Rattle.shift.specs.Shift.{role_or_senior, touched, bound_of, change_refused, bound_refusal}
use Rattle.shop.specs.Shop.{shop}
use Rattle.shop.specs.Reached.{side_by_side, idle, behind, heavier_behind, Reached}

pub reached : Reached
unfolding shop side_by_side idle behind heavier_behind
    word16 word32 table_of table_offset table_count table_start role_count frame_refusal
    length_bad letters_bad trailer_bad roles_bad reserved_bad tables_bad
    hierarchy_bad users_bad parameter_ok code_product clauses_bad clause_bad clause_slot_bad
    contexts_bad context_bad context_slot_bad context_condition_bad policies_bad policy_bad exclusions_bad
    records_refusal refusal_of context_holds rule_before weight
    length_refused some_unknown some_twice stands_before some_ineligible held_by may_act members_refusal sum_of
    role_or_senior touched bound_of change_refused bound_refusal answered
reached = record {
  by_manager = record { bound = record { accepted = refl; answer = refl }; sums = λ d z t. refl };
  by_buyer = record { bound = record { accepted = refl; answer = refl }; sums = λ d z t. refl };
  by_clerk = record { bound = record { accepted = refl; answer = refl }; sums = λ d z t. refl };
  at_the_side = record { bound = record { accepted = refl; answer = refl }; sums = λ d z t. refl };
  by_role_alone = record { bound = record { accepted = refl; answer = refl }; sums = λ d z t. refl };
  by_role_behind = record { bound = record { accepted = refl; answer = refl }; sums = λ d z t. refl };
  in_table_order = record { bound = record { accepted = refl; answer = refl }; sums = λ d z t. refl };
  by_weight = record { bound = record { accepted = refl; answer = refl }; sums = λ d z t. refl };
}
