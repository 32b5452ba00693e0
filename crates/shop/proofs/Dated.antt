-- The worked dates: by computing both sides.
use mathlib.Core.Path.{refl}
use Rattle.reader.specs.Bytes.{word16, word32}
use Rattle.reader.specs.Tables.{table_of, table_offset, table_count, table_start, role_count}
use Rattle.reader.specs.Tables.{length_bad, letters_bad, roles_bad, reserved_bad}
use Rattle.reader.specs.Tables.{tables_bad, trailer_bad, frame_refusal}
use Rattle.reader.specs.Codes.{code_product, parameter_ok, held_by}
use Rattle.reader.specs.Rules.{hierarchy_bad, users_bad, clause_slot_bad, clause_bad, clauses_bad}
use Rattle.reader.specs.Rules.{context_condition_bad, context_slot_bad, context_bad, contexts_bad}
use Rattle.reader.specs.Rules.{policy_bad, policies_bad}
use Rattle.reader.specs.Rules.{exclusions_bad, records_refusal, refusal_of}
use Rattle.weights.specs.Contexts.{out_of_range, context_holds}
use Rattle.resolution.specs.Resolution.{rule_before, list_refused}
use Rattle.weights.specs.Weights.{weight}
use Rattle.weights.specs.Acting.{may_act}
use Rattle.decision.specs.Conditions.{permission_holds}
use Rattle.decision.specs.Groups.{sum_of, length_refused, some_unknown, stands_before, some_twice, some_ineligible}
use Rattle.decision.specs.Groups.{some_out_of_date, some_weightless, members_refusal}
use Rattle.decision.specs.Decision.{group_decision, decision_by, decision_lent}
use Rattle.sheet.specs.Sheets.{stands_in, sign_refusal, signed}
use Rattle.shop.specs.Shop.{shop}
use Rattle.shop.specs.Dated.{seasonal, turned, one_day, with_old_letters, managers_sheet, clerks_sheet, Dated}

pub dated : Dated
unfolding shop seasonal turned one_day with_old_letters managers_sheet clerks_sheet
    word16 word32 table_of table_offset table_count table_start role_count frame_refusal
    length_bad letters_bad trailer_bad roles_bad reserved_bad tables_bad
    hierarchy_bad users_bad parameter_ok code_product clauses_bad clause_bad clause_slot_bad
    contexts_bad context_bad context_slot_bad context_condition_bad policies_bad policy_bad exclusions_bad
    records_refusal refusal_of
    context_holds rule_before list_refused weight
    out_of_range length_refused some_unknown some_twice stands_before some_ineligible held_by may_act members_refusal
    some_out_of_date some_weightless sum_of permission_holds group_decision decision_by decision_lent
    stands_in sign_refusal signed
dated = record {
  accepted = refl;
  first_days = refl;
  last_days = refl;
  first_above = refl;
  first_is_last = refl;
  old_letters = refl;
  day_before = refl;
  on_the_first = refl;
  on_the_last = refl;
  day_after = refl;
  low_byte_alone = refl;
  other_clerk = refl;
  after_15 = refl;
  before_16 = refl;
  else_16 = refl;
  before_17 = refl;
  else_17 = refl;
  with_list = refl;
  list_first = refl;
  last_date = refl;
  no_date = refl;
  after_10 = refl;
  before_12 = refl;
  signs = refl;
  asked_in_date = refl;
  asked_out_of_date = refl;
}
