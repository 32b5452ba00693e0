use Rattle.std.proofs.Common.{sym, ◌∙◌}
use Rattle.folds.proofs.Bools.{met, passed}
use Rattle.batch.proofs.Weighed.{some_without, none_without}
use Rattle.batch.proofs.permissions.Permissions.weighed_refusal.Goals as goal

pub returns-then-self-permission-ne0 : goal.returns-then-self-permission-ne0
returns-then-self-permission-ne0 c = λ b at asked all there h below.
    met _ (some_without all.weights there h _ c.args.roles (λ r. all.weightless c.args.permission r c.requires.0)
    c.ranges.roles.fits c.if-self-permission-ne0.true)

pub returns-then-holds : goal.returns-then-holds
returns-then-holds c = λ b at asked all there h below.
    let weighed = none_without all.weights there h _ c.args.roles
    (λ r. all.weightless c.args.permission r c.requires.0) c.ranges.roles.fits c.if-self-permission-ne0.false in
    met 17 (sym (c.if-holds.ensures b at asked all there h below)) ∙ sym (passed 16 weighed)

pub returns : goal.returns
returns c = λ b at asked all there h below.
    let weighed = none_without all.weights there h _ c.args.roles
    (λ r. all.weightless c.args.permission r c.requires.0) c.ranges.roles.fits c.if-self-permission-ne0.false in
    sym (passed 0 (sym (c.if-holds.ensures b at asked all there h below))) ∙ sym (passed 16 weighed)
