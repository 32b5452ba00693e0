use Rattle.std.proofs.Common.{arith}
use Rattle.masks.proofs.Narrowing.{bit_le, all_but}
use Rattle.masks.proofs.clauses.all_but.Goals as goal

pub overflow_sub-result : goal.overflow_sub-result
overflow_sub-result c = omega (arith, bit_le c.args.i c.args.own c.requires.1)

pub returns : goal.returns
returns c = rw c.wide_bit.ensures (all_but c.args.i c.args.own c.requires.1)
