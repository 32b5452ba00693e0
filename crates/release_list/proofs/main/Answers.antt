-- What is written lies within the buffer.
use Rattle.std.proofs.Common.{sym}
use lib.Seq.{length-take-le}
use Rattle.release_list.proofs.Whole.{whole_within}
use Rattle.release_list.proofs.main.Goals as goal

pub slice_bounds-out-end : goal.slice_bounds-out-end
slice_bounds-out-end c = whole_within c.in_ok-read.ensures.0 c.listing-n.ensures

pub slice_bounds-write_all-end : goal.slice_bounds-write_all-end
slice_bounds-write_all-end c = sym (length-take-le _ _ (whole_within c.in_ok-read.ensures.0 c.listing-n.ensures))
