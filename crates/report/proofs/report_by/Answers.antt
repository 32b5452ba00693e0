-- `report_by` meets its contract: the first refusal that applies is the answer, or the report is written.
use Rattle.std.proofs.Common.{ap, sym, ◌∙◌, length}
use Rattle.reader.proofs.Results.{refusal_pos, carried_on}
use Rattle.resolution.proofs.Lending.{legal_list, lent_none}
use Rattle.report.specs.Report.{fitting}
use Rattle.report.proofs.Answers.{refused_list, past_list, reported_refused, reported_by, refused_as}
use Rattle.report.proofs.Demand.{demanded_lent}
use Rattle.report.proofs.report_by.Goals as goal

pub returns-in_err-base-clause-promise : goal.returns-in_err-base-clause-promise
returns-in_err-base-clause-promise c =
    refused_as (carried_on _ _ c.from_residual.ensures.1)
    (reported_refused _ _ _ _ _ (refused_list _ _ _ _ c.in_err-base.ensures.number (refusal_pos _)) (refusal_pos _))

pub returns-in_err-fitting_refusal-clause-promise : goal.returns-in_err-fitting_refusal-clause-promise
returns-in_err-fitting_refusal-clause-promise c =
    let b = c.args.base.now in
    let n = length c.args.out.now in
    let (ok, legal) = lent_none c.args.list.now b (sym c.in_ok-base.ensures.number) in
    let is = c.in_err-fitting_refusal.ensures ∙ ap (λ b. fitting b c.args.at n) c.in_ok-base.ensures.same in
    let past = past_list b c.args.at n c.args.list.now ok legal is in
    refused_as (carried_on _ _ c.from_residual-in_err-fitting_refusal.ensures.1)
    (reported_refused _ _ _ _ _ past (refusal_pos _))

pub setting_by-s-requires : goal.setting_by-s-requires
setting_by-s-requires c =
    let (_, legal) = lent_none c.args.list.now c.args.base.now (sym c.in_ok-base.ensures.number) in
    ((legal_list _).0 legal).few

pub returns-clause-promise : goal.returns-clause-promise
returns-clause-promise c =
    let b = c.args.base.now in
    let n = length c.args.out.now in
    let (ok, legal) = lent_none c.args.list.now b (sym c.in_ok-base.ensures.number) in
    let (same, listed, _) = c.setting_by-s.ensures in
    let base = c.in_ok-base.ensures.same in
    let is = c.in_ok-fitting_refusal.ensures ∙ ap (λ b. fitting b c.args.at n) base in
    let past = past_list b c.args.at n c.args.list.now ok legal is in
    reported_by c.args.list.now b c.args.at _ c.args.out.now past base same listed c.fill_by_setting.ensures

pub returns-clause-demand : goal.returns-clause-demand
returns-clause-demand c = demanded_lent _ _ _ _ _ _ (returns-clause-promise c)
