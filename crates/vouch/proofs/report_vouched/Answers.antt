-- `report_vouched` meets its contract: the first refusal that applies is the answer, or the report is written.
use Rattle.std.proofs.Common.{ap, sym, ◌∙◌, length, arith}
use Rattle.reader.proofs.Frame.{users_le}
use Rattle.reader.proofs.Accepted.{accepted_frame}
use Rattle.reader.proofs.Results.{refusal_pos, carried_on}
use Rattle.report.proofs.Answers.{reported_refused, refused_as}
use Rattle.vouch.specs.Report.{fitting_for}
use Rattle.vouch.proofs.Stating.{stated_none}
use Rattle.vouch.proofs.Demanded.{demanded_vouched, refused_stated, past_stated, fitting_there, reported_for}
use Rattle.vouch.proofs.report_vouched.Goals as goal

pub returns-in_err-base-clause-promise : goal.returns-in_err-base-clause-promise
returns-in_err-base-clause-promise c =
    refused_as (carried_on _ _ c.from_residual.ensures.1)
    (reported_refused _ _ _ _ _
    (refused_stated _ c.args.threshold _ c.args.at _ _ c.in_err-base.ensures.number (refusal_pos _)) (refusal_pos _))

pub returns-in_err-fitting_refusal-clause-promise : goal.returns-in_err-fitting_refusal-clause-promise
returns-in_err-fitting_refusal-clause-promise c =
    let n = length c.args.out.now in
    let is = c.in_err-fitting_refusal.ensures
    ∙ ap (λ b. fitting_for b c.args.at c.args.requester n) c.in_ok-base.ensures.same in
    let lent = stated_none _ c.args.threshold _ (sym c.in_ok-base.ensures.number) in
    refused_as (carried_on _ _ c.from_residual-in_err-fitting_refusal.ensures.1)
    (reported_refused _ _ _ _ _ (past_stated _ _ _ c.args.at c.args.requester n lent is) (refusal_pos _))

pub returns-in_err-fitting_refusal-clause-demand : goal.returns-in_err-fitting_refusal-clause-demand
returns-in_err-fitting_refusal-clause-demand c =
    demanded_vouched _ _ _ _ _ _ _ _ (returns-in_err-fitting_refusal-clause-promise c)

pub returns-in_err-base-clause-demand : goal.returns-in_err-base-clause-demand
returns-in_err-base-clause-demand c = demanded_vouched _ _ _ _ _ _ _ _ (returns-in_err-base-clause-promise c)

-- the requester is there
pub overflow_cast-requester : goal.overflow_cast-requester
overflow_cast-requester c =
    let n = length c.args.out.now in
    let is = c.in_ok-fitting_refusal.ensures
    ∙ ap (λ b. fitting_for b c.args.at c.args.requester n) c.in_ok-base.ensures.same in
    let lent = stated_none _ c.args.threshold _ (sym c.in_ok-base.ensures.number) in
    let (_, there, _) = fitting_there c.args.register.now c.args.threshold _ c.args.at c.args.requester n (sym is) in
    let few = users_le _ (accepted_frame _ lent.accepted) in
    omega arith

pub returns-clause-promise : goal.returns-clause-promise
returns-clause-promise c =
    let b = c.args.base.now in
    let n = length c.args.out.now in
    let same = c.in_ok-base.ensures.same in
    let (held, _, _) = c.setting-s.ensures in
    let is = c.in_ok-fitting_refusal.ensures
    ∙ ap (λ b. fitting_for b c.args.at c.args.requester n) same in
    let lent = stated_none _ c.args.threshold _ (sym c.in_ok-base.ensures.number) in
    let past = past_stated c.args.register.now c.args.threshold b c.args.at c.args.requester n lent is in
    let (who, a) = c.asked_for-asked.ensures in
    reported_for c.args.register.now c.args.threshold b c.args.at c.args.requester _ c.args.out.now past same held who a
    c.fill_for.ensures

pub returns-clause-demand : goal.returns-clause-demand
returns-clause-demand c = demanded_vouched _ _ _ _ _ _ _ _ (returns-clause-promise c)
