-- The users who vouch by the statements before i are gathered.
use Rattle.vouch.proofs.Gathering.{VouchingYet}
use Rattle.vouch.proofs.beside.users_vouching.Given as goal

abbrev pub invariant-loop-i : goal.invariant-loop-i
invariant-loop-i l = VouchingYet l.register l.threshold l.date l.requester l.i l.vouching
