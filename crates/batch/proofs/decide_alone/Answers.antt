-- `decide_alone` meets its contract: 10 and 12 of the query, then the decision of its group.
use mathlib.Core.Path.{◌≡◌, ◌∙◌}
use Rattle.std.proofs.Common.{ℕ, List, []}
use Rattle.reader.proofs.Results.{refusal_pos, handed_on}
use Rattle.weights.specs.declared.Context.{Context}
use Rattle.decision.specs.Decision.{group_decision}
use Rattle.batch.proofs.Answering.{query_refused, query_decided}
use Rattle.batch.proofs.decide_alone.Goals as goal

-- by the rules, the permission and the group that the query and the setting hold
of_query : (b : List ℕ) (at : Context) {rules g h : List ℕ} {p o : ℕ} → rules ≡ [] → p ≡ o → g ≡ h →
    group_decision rules b at p g ≡ group_decision [] b at o h
of_query b at none same group = rw (none, same, group)

pub returns-in_err-query : goal.returns-in_err-query
returns-in_err-query c =
    handed_on _ _ c.from_residual.ensures.1
    ∙ query_refused c.args.base.now c.args.s.at c.args.query.now c.requires.1.accepted c.permission_count.ensures
    c.in_err-query.ensures.number (refusal_pos _)

pub returns : goal.returns
returns c =
    let asks = c.in_ok-query.ensures.asks in
    let settled = c.requires.1 in
    query_decided c.args.base.now c.args.s.at c.args.query.now settled.accepted settled.in_range
    c.permission_count.ensures c.in_ok-query.ensures.number
    (c.decide_checked.ensures ∙ of_query c.args.base.now c.args.s.at settled.unlisted asks.permission asks.group)
