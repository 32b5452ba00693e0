-- The worked sheets: by computing both sides.
use mathlib.Core.Path.{refl}
use Rattle.reader.specs.Bytes.{word16, word32}
use Rattle.reader.specs.Tables.{table_of, table_offset, table_count, table_start, role_count}
use Rattle.reader.specs.Tables.{length_bad, letters_bad, roles_bad, reserved_bad}
use Rattle.reader.specs.Tables.{tables_bad, trailer_bad, frame_refusal}
use Rattle.reader.specs.Codes.{code_product, parameter_ok, held_by}
use Rattle.reader.specs.Rules.{hierarchy_bad, users_bad, clause_slot_bad, clause_bad, clauses_bad}
use Rattle.reader.specs.Rules.{context_condition_bad, context_slot_bad, context_bad, contexts_bad}
use Rattle.reader.specs.Rules.{policy_bad, policies_bad}
use Rattle.reader.specs.Rules.{exclusions_bad, records_refusal, refusal_of}
use Rattle.weights.specs.Acting.{may_act}
use Rattle.sheet.specs.Sheets.{stands_in, open_refusal, opened_for, sign_refusal, signed, holding, staying}
use Rattle.sheet.specs.Sheets.{withdraw_refusal, withdrawn}
use Rattle.sheet.specs.Signings.{signed_by, acceptable, entries_of}
use Rattle.sheet.specs.Events.{takes_back, taken_back, standing, new_in, signatures_after, called}
use Rattle.sheet.specs.Form.{bytes_after_all}
use Rattle.shop.specs.Shop.{shop}
use Rattle.shop.specs.TakenBack.{morning, stand_after, TakenBack}

pub taken_back_lem : TakenBack
unfolding shop morning stand_after
    word16 word32 table_of table_offset table_count table_start role_count frame_refusal
    length_bad letters_bad trailer_bad roles_bad reserved_bad tables_bad
    hierarchy_bad users_bad parameter_ok code_product clauses_bad clause_bad clause_slot_bad
    contexts_bad context_bad context_slot_bad context_condition_bad policies_bad policy_bad exclusions_bad
    records_refusal refusal_of held_by may_act
    open_refusal opened_for sign_refusal signed stands_in holding staying withdraw_refusal withdrawn
    signed_by acceptable entries_of takes_back taken_back standing new_in signatures_after called bytes_after_all
taken_back_lem = record {
  one_signed = refl;
  two_signed = refl;
  three_signed = refl;
  refused = refl;
  clerk_withdrawn = refl;
  in_vain = refl;
  signed_again = refl;
  manager_withdrawn = refl;
  bytes = refl;
  over_six = refl;
  twice = refl;
  behind = refl;
  not_cut = refl;
  role_alone = refl;
}
