-- `decide_checked` meets its contract: 12 to 15 and 24 by `present`, then what is left.
use Rattle.std.proofs.Common.{ℕ, List, ◌≡◌}
use mathlib.Core.Path.{ap, sym, ◌∙◌}
use Rattle.reader.proofs.Results.{refusal_pos, handed_on}
use Rattle.weights.specs.declared.Context.{Context}
use Rattle.weights.specs.Setting.{rules_of}
use Rattle.decision.specs.Groups.{group_refusal}
use Rattle.decision.specs.Decision.{present_of, weighed_of, group_decision}
use Rattle.decision.proofs.Heads.{present_first, present_left}
use Rattle.decision.proofs.decide_checked.Goals as goal

module _ (rules b : List ℕ) (at : Context) (p : ℕ) (g : List ℕ) {n : ℕ} where
  absent : n ≡ present_of b at g 0 → (n ≡ 0 → ⊥) → n ≡ group_decision rules b at p g
  unfolding group_decision group_refusal
  absent is some = is ∙ present_first _ _ _ _ g (λ h. some (is ∙ h)) _

  weighed : 0 ≡ present_of b at g 0 → n ≡ weighed_of rules b at p g → n ≡ group_decision rules b at p g
  unfolding group_decision group_refusal
  weighed there is = is ∙ sym (present_left _ _ _ _ g (sym there) _)

pub returns-in_err-members : goal.returns-in_err-members
returns-in_err-members c =
    handed_on _ _ c.from_residual.ensures.1
    ∙ absent _ _ c.args.s.at _ _ c.in_err-members.ensures.number (refusal_pos _)

pub returns : goal.returns
returns c =
    let same = c.in_ok-members.ensures.same in
    weighed (rules_of c.args.s) c.args.base.now c.args.s.at c.args.permission c.args.group.now
    c.in_ok-members.ensures.number
    (c.weighed_refusal.ensures ∙ ap (weighed_of (rules_of c.args.s) c.args.base.now c.args.s.at c.args.permission) same)
