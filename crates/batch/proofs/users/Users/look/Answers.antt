-- Each entry is looked at in turn; the first that is unknown ends the look.
use Rattle.std.proofs.Common.{refl, arith}
use Rattle.batch.proofs.Looking.{looked_none, looked_more, sum_low, entry_told, unknown_found}
use Rattle.batch.proofs.users.Users.look.Goals as goal

pub loop-i-init : goal.loop-i-init
loop-i-init c = looked_none c.args.self.now c.args.w c.args.group.now _ refl refl refl refl

pub returns-then-is_unknown : goal.returns-then-is_unknown
returns-then-is_unknown c =
    unknown_found c.args.self.now c.args.w c.args.group.now c.loop-i.i (omega arith)
    (entry_told c.args.self.now c.args.w c.args.group.now c.loop-i.i c.if-is_unknown.ensures c.from.ensures
    c.from-in-loop-i.ensures c.of-user.ensures)

pub overflow_add-seen : goal.overflow_add-seen
overflow_add-seen c =
    let low = sum_low c.args.self.now c.args.w c.args.group.now c.loop-i.invariant c.requires.1 in
    let few = c.requires.0.few in
    omega arith

pub loop-i-preserved : goal.loop-i-preserved
loop-i-preserved c =
    looked_more c.args.self.now c.args.w c.args.group.now c.loop-i.invariant c.of-user.ensures.0 c.of-user.ensures.1
    (entry_told c.args.self.now c.args.w c.args.group.now c.loop-i.i c.if-is_unknown.ensures c.from.ensures
    c.from-in-loop-i.ensures c.of-user.ensures)
    c.from-in-loop-i-2.ensures c.role_bit.ensures refl refl refl refl
