-- `Grounds::decide` meets its contract: 10 and 12 of the query, 13 to 15 and 24 by the users, then 16 and 17 by the
-- permissions asked for.
use Rattle.std.proofs.Common.{ℕ, List, [], ◌≡◌, ◌<◌, arith}
use mathlib.Core.Path.{ap, ◌∙◌}
use native.Mathlib.Nat.{lt_of_lt_of_le, le_trans, mul-le-mul_right}
use Rattle.reader.specs.Tables.{permission_count}
use Rattle.reader.proofs.Results.{refusal_pos, handed_on}
use Rattle.weights.specs.declared.Context.{Context}
use Rattle.decision.specs.Decision.{present_of, weighed_of}
use Rattle.decision.proofs.Granting.{role_below}
use Rattle.batch.specs.Queries.{query_permission}
use Rattle.batch.proofs.Asking.{in_asked}
use Rattle.batch.proofs.Answering.{query_refused, query_absent, query_weighed}
use Rattle.batch.proofs.Looking.{sum_low}
use Rattle.batch.proofs.Present.{present_13, present_seen, all_known, roles_are, roles_known, sum_is}
use Rattle.batch.proofs.Deciding.{copied, weighed_seen}
use Rattle.batch.proofs.grounds.Grounds.decide.Goals as goal

-- by the permission and the group that the query holds
of_query : (b : List ℕ) (at : Context) {g h : List ℕ} {p o : ℕ} → p ≡ o → g ≡ h →
    weighed_of [] b at p g ≡ weighed_of [] b at o h
of_query b at same group = rw (same, group)

pub returns-in_err-permission : goal.returns-in_err-permission
returns-in_err-permission c b at queries t asked =
    handed_on _ _ c.from_residual.ensures.1
    ∙ query_refused b at c.args.query.now t.accepted t.count c.in_err-permission.ensures.number (refusal_pos _)

pub returns-in_default : goal.returns-in_default
returns-in_default c b at queries t asked =
    let asks = c.in_ok-permission.ensures.asks in
    query_absent b at c.args.query.now t.accepted t.in_range t.count c.in_ok-permission.ensures.number
    (present_13 asks.entries t.users c.in_default.ensures ∙ ap (λ g. present_of b at g 0) asks.group)
    (λ e. omega (arith, e))

pub returns-in_err-users_refusal : goal.returns-in_err-users_refusal
returns-in_err-users_refusal c b at queries t asked =
    let asks = c.in_ok-permission.ensures.asks in
    handed_on _ _ c.from_residual-in_err-users_refusal.ensures.1
    ∙ query_absent b at c.args.query.now t.accepted t.in_range t.count c.in_ok-permission.ensures.number
    (c.in_err-users_refusal.ensures ∙ present_seen asks.entries t.users c.in-Some.ensures
    ∙ ap (λ g. present_of b at g 0) asks.group)
    (refusal_pos _)

pub weighed_refusal-requires : goal.weighed_refusal-requires
weighed_refusal-requires c =
    let asks = c.in_ok-permission.ensures.asks in
    let sum = sum_low _ _ _ c.in-Some.ensures c.role_weights-w.ensures.light in
    let few = mul-le-mul_right 40 asks.entries.few in
    (lt_of_lt_of_le asks.there c.args.self.now.few, asks.entries.few, le_trans sum few)

pub returns : goal.returns
returns c b at queries t asked =
    let q = c.args.query.now in
    let asks = c.in_ok-permission.ensures.asks in
    let look = c.in-Some.ensures in
    let there : c.in_ok-permission.field-0.permission < permission_count b = rw (← t.count) asks.there in
    let here = in_asked queries (query_permission q) t.members there asks.permission asked in
    let are = copied t.permissions.weights there here c.role_weights-w.ensures.each in
    let low = role_below _ _ _ (all_known asks.entries t.users look) (omega arith) in
    query_weighed b at q t.accepted t.in_range t.count c.in_ok-permission.ensures.number
    (c.in_ok-users_refusal.ensures ∙ present_seen asks.entries t.users look ∙ ap (λ g. present_of b at g 0) asks.group)
    (c.weighed_refusal.ensures b at t.asked t.permissions there here (roles_known asks.entries t.users look)
    ∙ weighed_seen _ are low (sum_is asks.entries t.users look) (roles_are asks.entries t.users look)
    ∙ of_query b at asks.permission asks.group)
