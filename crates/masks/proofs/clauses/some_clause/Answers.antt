-- The number of trailing zeros is the lowest member.
use Rattle.folds.proofs.Lowest.{lowest}
use Rattle.masks.proofs.clauses.some_clause.Goals as goal

pub returns : goal.returns
returns c = let l = lowest 64 c.args.rest c.requires c.ranges.rest.fits in (l.below, l.member)
