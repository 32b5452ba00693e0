-- `vouches` meets its contract: it looks for a statement that says so.
use Rattle.std.proofs.Common.{rules, tests, length, ◌/◌}
use Rattle.folds.proofs.Chains.{any_of_range}
use Rattle.vouch.specs.Vouching.{states, vouches}
use Rattle.vouch.proofs.register.vouches.Goals as goal

pub returns : goal.returns
unfolding vouches
returns c =
    any_of_range
    (states c.args.register.now c.args.terms.threshold c.args.terms.permission c.args.terms.date c.args.issuer
    c.args.requester)
    (length c.args.register.now / 8) _ _ _ (cc) (λ x b q k. search (rules, tests)) c.any.ensures.ran
