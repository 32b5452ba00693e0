-- The table passed the check, so condition j is one of at most 4, and keeps the rules.
use Rattle.std.proofs.Common.{arith}
use Rattle.masks.proofs.Conditions.{slot}
use Rattle.masks.proofs.table.GroupClauses.condition.Goals as goal

pub read-requires : goal.read-requires
read-requires c =
    let (l, m) = rw (← c.self.view_is) at c.requires in
    let h = slot c.self.invariant l m in
    let one_of = h.one_of in
    (h.whole, omega arith)

pub returns-clause-kept : goal.returns-clause-kept
returns-clause-kept c =
    let (l, m) = rw (← c.self.view_is) at c.requires in
    let fine = (slot c.self.invariant l m).condition in
    rw c.read.ensures (fine.attribute_le, fine.number, λ is. (fine.set is).0)
