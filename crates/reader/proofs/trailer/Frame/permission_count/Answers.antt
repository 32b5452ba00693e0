-- The part lent is the table of permissions; it has at most 16 records, so their number is a byte.
use Rattle.std.proofs.Common.{arith}
use Rattle.reader.proofs.Frame.{permissions_le}
use Rattle.reader.proofs.trailer.Frame.permission_count.Goals as goal

pub overflow_cast-result : goal.overflow_cast-result
overflow_cast-result c = let few = permissions_le _ c.part.ensures.framed in rw c.part.ensures.table (omega arith)
