-- `decide_vouched` meets its contract: 1 to 9, 25 and 27, 10 and 11, and the rest by `group_refusal`.
use Rattle.std.proofs.Common.{arith}
use mathlib.Core.Path.{ap, sym, ◌∙◌}
use native.Mathlib.Nat.{lt_of_lt_of_le}
use Rattle.reader.proofs.Frame.{permissions_le}
use Rattle.reader.proofs.Accepted.{accepted_frame}
use Rattle.reader.proofs.Results.{refusal_pos, handed_on}
use Rattle.decision.proofs.Heads.{asking_there}
use Rattle.decision.specs.Decision.{asking}
use Rattle.vouch.specs.Decision.{group_vouched}
use Rattle.vouch.proofs.Stating.{stated_none, head_refused, asking_refused, group_decided}
use Rattle.vouch.proofs.decide_vouched.Goals as goal

pub returns-in_err-base : goal.returns-in_err-base
returns-in_err-base c =
    handed_on _ _ c.from_residual.ensures.1
    ∙ head_refused _ _ _ c.args.at c.args.permission c.args.group.now c.in_err-base.ensures.number (refusal_pos _)

pub returns-in_err-asking_refusal : goal.returns-in_err-asking_refusal
returns-in_err-asking_refusal c =
    let same = c.in_ok-base.ensures.same in
    handed_on _ _ c.from_residual-in_err-asking_refusal.ensures.1
    ∙ asking_refused _ _ _ c.args.at c.args.permission c.args.group.now
    (stated_none _ c.args.threshold _ (sym c.in_ok-base.ensures.number))
    (c.in_err-asking_refusal.ensures ∙ ap (λ b. asking b c.args.at c.args.permission 0) same) (refusal_pos _)

-- the permission is there
pub overflow_cast-terms : goal.overflow_cast-terms
overflow_cast-terms c =
    let same = c.in_ok-base.ensures.same in
    let d = stated_none _ c.args.threshold _ (sym c.in_ok-base.ensures.number) in
    let is = c.in_ok-asking_refusal.ensures ∙ ap (λ b. asking b c.args.at c.args.permission 0) same in
    let there = asking_there _ c.args.at _ (sym is) in
    let few = lt_of_lt_of_le there (permissions_le _ (accepted_frame _ d.accepted)) in
    omega arith

pub returns : goal.returns
returns c =
    let b = c.args.base.now in
    let same = c.in_ok-base.ensures.same in
    let (held, _, _) = c.setting-s.ensures in
    let is = c.in_ok-asking_refusal.ensures ∙ ap (λ b. asking b c.args.at c.args.permission 0) same in
    group_decided _ _ b c.args.at c.args.permission c.args.group.now
    (stated_none _ c.args.threshold _ (sym c.in_ok-base.ensures.number)) (sym is) held
    (c.group_refusal.ensures
    ∙ ap
    (λ b. group_vouched c.args.register.now c.args.threshold b c.setting-s.result.at c.args.permission c.args.group.now)
    same)
