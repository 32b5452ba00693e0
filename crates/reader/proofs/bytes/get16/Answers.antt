use Rattle.std.proofs.Common.{arith}
use Rattle.reader.specs.Bytes.{word16}
use Rattle.reader.proofs.bytes.get16.Goals as goal

pub returns : goal.returns
unfolding word16
returns c = omega (arith, c.from_le_bytes.ensures)
