use Rattle.std.proofs.Common.{◌≡◌, arith}
use Rattle.masks.proofs.Striking.{struck_roles}
use Rattle.masks.proofs.clauses.strike_roles.Goals as goal

pub returns : goal.returns
returns c =
    let e : c.loop-r.r ≡ 8 = omega arith in
    struck_roles c.args.value (omega arith) (rw e at c.loop-r.invariant)
