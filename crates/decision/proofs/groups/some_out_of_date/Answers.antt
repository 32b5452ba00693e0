-- `some_out_of_date` meets its contract: it looks for an entry whose user's days don't include the date.
use Rattle.std.proofs.Common.{rules, tests, length, ◌/◌}
use Rattle.folds.proofs.Chains.{any_of_range}
use Rattle.reader.specs.Days.{out_of_days}
use Rattle.decision.specs.Groups.{entry_user, some_out_of_date}
use Rattle.decision.proofs.groups.some_out_of_date.Goals as goal

pub returns : goal.returns
unfolding some_out_of_date
returns c =
    any_of_range (λ i. out_of_days c.args.users.now c.args.date (entry_user c.args.g.now i)) (length c.args.g.now / 2)
    _ _ _ (cc) (λ x b q k. search (rules, tests)) c.any.ensures.ran
