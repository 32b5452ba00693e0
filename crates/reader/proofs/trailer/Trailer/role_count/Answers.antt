-- The byte read is the one that `role_count` names.
use Rattle.std.proofs.Common.{ap}
use Rattle.reader.specs.Tables.{role_count}
use Rattle.reader.proofs.trailer.Trailer.role_count.Goals as goal

pub returns : goal.returns
unfolding role_count
returns c = ap role_count c.self.view_is
