-- `report` meets its contract: the first refusal that applies is the answer, or the report is written.
use Rattle.std.proofs.Common.{ap, sym, ◌∙◌, length, []}
use Rattle.reader.proofs.Results.{refusal_pos, carried_on}
use Rattle.report.specs.Report.{fitting}
use Rattle.report.proofs.Answers.{refused_base, past_base, reported_refused, reported_by, refused_as}
use Rattle.report.proofs.Demand.{demanded}
use Rattle.report.proofs.report.Goals as goal

pub returns-in_err-base-clause-promise : goal.returns-in_err-base-clause-promise
returns-in_err-base-clause-promise c =
    refused_as (carried_on _ _ c.from_residual.ensures.1)
    (reported_refused _ _ _ _ _ (refused_base _ _ _ c.in_err-base.ensures.number (refusal_pos _)) (refusal_pos _))

pub returns-in_err-fitting_refusal-clause-promise : goal.returns-in_err-fitting_refusal-clause-promise
returns-in_err-fitting_refusal-clause-promise c =
    let b = c.args.base.now in
    let n = length c.args.out.now in
    let is = c.in_err-fitting_refusal.ensures ∙ ap (λ b. fitting b c.args.at n) c.in_ok-base.ensures.same in
    let past = past_base b c.args.at n (sym c.in_ok-base.ensures.number) is in
    refused_as (carried_on _ _ c.from_residual-in_err-fitting_refusal.ensures.1)
    (reported_refused _ _ _ _ _ past (refusal_pos _))

pub returns-clause-promise : goal.returns-clause-promise
returns-clause-promise c =
    let b = c.args.base.now in
    let n = length c.args.out.now in
    let (same, listed, _) = c.setting-s.ensures in
    let base = c.in_ok-base.ensures.same in
    let is = c.in_ok-fitting_refusal.ensures ∙ ap (λ b. fitting b c.args.at n) base in
    let past = past_base b c.args.at n (sym c.in_ok-base.ensures.number) is in
    reported_by [] b c.args.at _ c.args.out.now past base same listed c.fill_by_setting.ensures

pub returns-clause-demand : goal.returns-clause-demand
returns-clause-demand c = demanded _ _ _ _ _ (returns-clause-promise c)
