use Rattle.std.proofs.Common.{arith}
use Rattle.batch.proofs.Masking.{told}
use Rattle.batch.proofs.permissions.Permissions.holds.Goals as goal

pub returns : goal.returns
returns c = λ b at asked all there h below.
    let own = all.own.each c.args.permission there h in
    rw (own, c.wide.ensures.0)
    (told all.masks c.args.permission c.args.entries c.args.sum c.args.roles h (omega arith) (omega arith) below)
