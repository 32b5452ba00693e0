-- `decide` meets its contract: 1 to 9, 10 and 11, and the rest by `decide_checked`.
use Rattle.std.proofs.Common.{[], arith}
use mathlib.Core.Path.{ap, sym, ◌∙◌}
use native.Mathlib.Nat.{lt_of_lt_of_le}
use Rattle.reader.proofs.Frame.{permissions_le}
use Rattle.reader.proofs.Accepted.{accepted_frame, accepted_as}
use Rattle.reader.proofs.Results.{refusal_pos, handed_on}
use Rattle.decision.specs.Decision.{decision_of}
use Rattle.decision.proofs.Heads.{asking_there, base_refused, asking_refused, group_decided}
use Rattle.decision.proofs.decide.Goals as goal

pub returns-in_err-base : goal.returns-in_err-base
returns-in_err-base c =
    handed_on _ _ c.from_residual.ensures.1
    ∙ base_refused c.args.base.now c.args.at c.args.permission [] c.args.group.now c.in_err-base.ensures.number
    (refusal_pos _)

pub returns-in_err-asking_refusal : goal.returns-in_err-asking_refusal
returns-in_err-asking_refusal c =
    handed_on _ _ c.from_residual-in_err-asking_refusal.ensures.1
    ∙ asking_refused c.in_ok-base.base c.args.at c.args.permission [] c.args.group.now
    (accepted_as c.in_ok-base.ensures.same c.in_ok-base.ensures.number)
    c.in_err-asking_refusal.ensures (refusal_pos _)
    ∙ ap (λ b. decision_of b c.args.at c.args.permission c.args.group.now) c.in_ok-base.ensures.same

pub overflow_cast-permission : goal.overflow_cast-permission
overflow_cast-permission c =
    let there = asking_there _ c.args.at _ (sym c.in_ok-asking_refusal.ensures) in
    let ok = accepted_as c.in_ok-base.ensures.same c.in_ok-base.ensures.number in
    let few = lt_of_lt_of_le there (permissions_le _ (accepted_frame _ ok)) in
    omega arith

pub returns : goal.returns
returns c =
    let (same, listed, _) = c.setting-s.ensures in
    let ok = accepted_as c.in_ok-base.ensures.same c.in_ok-base.ensures.number in
    group_decided c.in_ok-base.base c.args.at c.args.permission [] c.args.group.now
    ok (sym c.in_ok-asking_refusal.ensures) same listed c.decide_checked.ensures
    ∙ ap (λ b. decision_of b c.args.at c.args.permission c.args.group.now) c.in_ok-base.ensures.same
