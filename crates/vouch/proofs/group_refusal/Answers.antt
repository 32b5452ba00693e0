-- `group_refusal` meets its contract: 12 to 15 and 24 by `present`, then 26, then what is left.
use Rattle.std.proofs.Common.{ℕ, Bool, true, false, List, [], ◌≡◌}
use mathlib.Core.Path.{ap, sym, ◌∙◌}
use Rattle.reader.proofs.Results.{refusal_pos, handed_on}
use Rattle.weights.specs.declared.Context.{Context}
use Rattle.weights.specs.Setting.{rules_of}
use Rattle.decision.specs.Decision.{present_of, weighed_of}
use Rattle.decision.proofs.Heads.{present_first, present_left}
use Rattle.vouch.specs.Vouching.{vouches, some_unvouched, vouched_refusal}
use Rattle.vouch.specs.Decision.{group_vouched}
use Rattle.vouch.proofs.group_refusal.Goals as goal

module _ (register : List ℕ) (threshold : ℕ) (b : List ℕ) (at : Context) (p : ℕ) (g : List ℕ) where
  abbrev unvouched : Bool
  unvouched = some_unvouched (vouches register threshold p at.date) g

  absent : {n : ℕ} → n ≡ present_of b at g 0 → (n ≡ 0 → ⊥) → n ≡ group_vouched register threshold b at p g
  unfolding group_vouched vouched_refusal
  absent is some = is ∙ present_first _ _ _ _ g (λ h. some (is ∙ h)) _

  module _ (there : 0 ≡ present_of b at g 0) where
    by_26 : unvouched ≡ true → 26 ≡ group_vouched register threshold b at p g
    unfolding group_vouched vouched_refusal
    by_26 e = sym (present_left _ _ _ _ g (sym there) _ ∙ rw e)

    weighed : {n : ℕ} {rules : List ℕ} → unvouched ≡ false → rules ≡ [] → n ≡ weighed_of rules b at p g →
        n ≡ group_vouched register threshold b at p g
    unfolding group_vouched vouched_refusal
    weighed e none is = is ∙ sym (present_left _ _ _ _ g (sym there) _ ∙ rw (e, none))

-- what is asked of the bytes read, on the date of the terms, is asked of the group
unvouched_is : (register : List ℕ) (threshold p : ℕ) (at : Context) {g bytes : List ℕ} {date : ℕ} {t : Bool} →
    t ≡ some_unvouched (vouches register threshold p date) bytes → bytes ≡ g → date ≡ at.date →
    some_unvouched (vouches register threshold p at.date) g ≡ t
unvouched_is register threshold p at is same day = sym (rw (same, day) at is)

pub returns-in_err-members : goal.returns-in_err-members
returns-in_err-members c =
    handed_on _ _ c.from_residual.ensures.1
    ∙ absent _ _ _ c.args.s.at c.args.terms.permission _ c.in_err-members.ensures.number (refusal_pos _)

pub returns-then-some_unvouched : goal.returns-then-some_unvouched
returns-then-some_unvouched c =
    let same = c.bytes.ensures.bytes ∙ c.in_ok-members.ensures.same in
    by_26 _ _ _ c.args.s.at c.args.terms.permission _ c.in_ok-members.ensures.number
    (unvouched_is _ _ _ c.args.s.at c.if-some_unvouched.ensures same c.requires.3)

pub returns : goal.returns
returns c =
    let rules = rules_of c.args.s in
    let b = c.args.base.now in
    let same = c.bytes.ensures.bytes ∙ c.in_ok-members.ensures.same in
    weighed _ _ b c.args.s.at c.args.terms.permission _ c.in_ok-members.ensures.number
    (unvouched_is _ _ _ c.args.s.at c.if-some_unvouched.ensures same c.requires.3) c.requires.2
    (c.weighed_refusal.ensures
    ∙ ap (weighed_of rules b c.args.s.at c.args.terms.permission) c.in_ok-members.ensures.same)
