use Rattle.std.proofs.Common.{arith}
use Rattle.reader.specs.Bytes.{word32}
use Rattle.reader.proofs.bytes.get32.Goals as goal

pub returns : goal.returns
unfolding word32
returns c = omega (arith, c.from_le_bytes.ensures)
