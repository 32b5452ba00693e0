-- `some_unvouched` meets its contract: it looks for an entry behind the first whose user doesn't vouch for the first's.
use Rattle.std.proofs.Common.{rules, tests, length, ◌/◌, ltb, ◌&&◌, not}
use Rattle.folds.proofs.Chains.{any_of_range}
use Rattle.decision.specs.Groups.{entry_user}
use Rattle.vouch.specs.Vouching.{vouches, some_unvouched}
use Rattle.vouch.proofs.register.some_unvouched.Goals as goal

pub returns : goal.returns
unfolding some_unvouched
returns c =
    let terms = c.args.terms in
    let g = c.args.g.now in
    any_of_range
    (λ i. ltb 0 i && not (vouches c.args.register.now terms.threshold terms.permission terms.date (entry_user g i)
    (entry_user g 0)))
    (length g / 2) _ _ _ (cc) (λ x b q k. search (rules, tests)) c.any.ensures.ran
