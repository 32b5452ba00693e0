-- `add_pair` meets its contract: one store, of the set of p with q in it.
use Rattle.std.proofs.Common.{refl, arith}
use Rattle.conflicts.proofs.Bits.{set_added}
use Rattle.conflicts.proofs.covers.add_pair.Goals as goal

pub returns : goal.returns
returns c = set_added c.args.excluded.now c.args.p c.bit.result c.args.p c.args.q refl c.bit.ensures (omega arith)
