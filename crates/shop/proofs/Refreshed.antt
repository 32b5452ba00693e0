-- The worked refresh: by computing both sides.
use mathlib.Core.Path.{refl}
use Rattle.folds.specs.Below.{join_below}
use Rattle.reader.specs.Bytes.{word16, word32}
use Rattle.reader.specs.Tables.{table_of, table_offset, table_count, table_start, role_count}
use Rattle.reader.specs.Tables.{length_bad, letters_bad, roles_bad, reserved_bad}
use Rattle.reader.specs.Tables.{tables_bad, trailer_bad, frame_refusal}
use Rattle.reader.specs.Codes.{code_product, parameter_ok, held_by}
use Rattle.reader.specs.Rules.{hierarchy_bad, users_bad, clause_slot_bad, clause_bad, clauses_bad}
use Rattle.reader.specs.Rules.{context_condition_bad, context_slot_bad, context_bad, contexts_bad}
use Rattle.reader.specs.Rules.{policy_bad, policies_bad}
use Rattle.reader.specs.Rules.{exclusions_bad, records_refusal, refusal_of}
use Rattle.weights.specs.Contexts.{out_of_range, context_holds}
use Rattle.resolution.specs.Resolution.{rule_before}
use Rattle.weights.specs.Weights.{weight}
use Rattle.weights.specs.Acting.{may_act}
use Rattle.decision.specs.Conditions.{permission_holds}
use Rattle.decision.specs.Groups.{sum_of, length_refused, some_unknown, stands_before}
use Rattle.decision.specs.Groups.{some_twice, some_ineligible, some_out_of_date, some_weightless, members_refusal}
use Rattle.decision.specs.Groups.{group_refusal}
use Rattle.decision.specs.Decision.{group_decision, decision_by}
use Rattle.batch.specs.Queries.{answer_to}
use Rattle.batch.specs.Batch.{queries_refused, batch_refusal, batch_bytes}
use Rattle.shop.specs.Shop.{shop}
use Rattle.shop.specs.Dated.{seasonal, with_old_letters}
use Rattle.shop.specs.Refreshed.{queries, Refreshed}

pub refreshed : Refreshed
unfolding shop seasonal with_old_letters queries join_below
    word16 word32 table_of table_offset table_count table_start role_count frame_refusal
    length_bad letters_bad trailer_bad roles_bad reserved_bad tables_bad
    hierarchy_bad users_bad parameter_ok code_product clauses_bad clause_bad clause_slot_bad
    contexts_bad context_bad context_slot_bad context_condition_bad policies_bad policy_bad exclusions_bad
    records_refusal refusal_of
    context_holds rule_before weight
    out_of_range length_refused some_unknown some_twice stands_before some_ineligible held_by may_act members_refusal
    some_out_of_date some_weightless sum_of permission_holds group_refusal group_decision decision_by
    answer_to queries_refused batch_refusal batch_bytes
refreshed = record {
  all_nine = refl;
  exact = refl;
  one_short = refl;
  untouched = refl;
  six_read = refl;
  far_above = refl;
  no_permission = refl;
  by_day = refl;
  out_of_date = refl;
  in_date = refl;
  no_query = refl;
  none_written = refl;
  out_of_range = refl;
  most = refl;
  one_more = refl;
  not_whole = refl;
  before_28 = refl;
  before_11 = refl;
}
