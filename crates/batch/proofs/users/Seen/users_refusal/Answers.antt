-- The first test asks for a user's bit, and the others each for one bit.
use Rattle.std.proofs.Common.{◌∙◌, sym}
use Rattle.folds.proofs.Bools.{met, passed}
use Rattle.batch.proofs.Words.{no_user, some_user}
use Rattle.batch.proofs.users.Seen.users_refusal.Goals as goal

pub returns-then-self-ne0 : goal.returns-then-self-ne0
returns-then-self-ne0 c = met _ (some_user c.args.self.twice c.if-self-ne0.true)

pub returns-then-in_set : goal.returns-then-in_set
returns-then-in_set c =
    met _ (sym c.in_set.ensures ∙ c.if-in_set.true)
    ∙ sym (passed 14 (no_user c.args.self.twice c.if-self-ne0.false))

pub returns-then-in_set-2 : goal.returns-then-in_set-2
returns-then-in_set-2 c =
    met _ (sym c.in_set-2.ensures ∙ c.if-in_set-2.true) ∙ sym (passed 15 (sym c.in_set.ensures ∙ c.if-in_set.false))
    ∙ sym (passed 14 (no_user c.args.self.twice c.if-self-ne0.false))

pub returns : goal.returns
returns c =
    sym (passed 14 (no_user c.args.self.twice c.if-self-ne0.false)
    ∙ passed 15 (sym c.in_set.ensures ∙ c.if-in_set.false)
    ∙ passed 24 (sym c.in_set-2.ensures ∙ c.if-in_set-2.false))
