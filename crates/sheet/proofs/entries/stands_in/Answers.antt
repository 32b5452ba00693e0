-- `stands_in` meets its contract: it asks for an entry with the user.
use Rattle.std.proofs.Common.{eqb, rules, tests}
use Rattle.folds.proofs.Chains.{any_of_range}
use Rattle.decision.specs.Groups.{entry_count, entry_user}
use Rattle.sheet.specs.Sheets.{stands_in}
use Rattle.sheet.proofs.entries.stands_in.Goals as goal

pub returns : goal.returns
unfolding stands_in
returns c =
    any_of_range (λ i. eqb (entry_user c.args.held.now i) c.args.user) (entry_count c.args.held.now) _ _ _ (cc)
    (λ x b q k. search (rules, tests)) c.any.ensures.ran
