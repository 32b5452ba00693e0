-- `row_count` meets its contract: its ones are its members.
use Rattle.conflicts.proofs.Lists.{ones_members}
use Rattle.conflicts.proofs.writing.row_count.Goals as goal

pub returns : goal.returns
returns c = let (is, few) = ones_members c.args.row c.ranges.row.fits in (is, rw is few)
