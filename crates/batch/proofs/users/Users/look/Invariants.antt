-- The entries before the turn's are looked at.
use Rattle.batch.specs.Steps.{Looked}
use Rattle.batch.proofs.users.Users.look.Given as goal

abbrev pub invariant-loop-i : goal.invariant-loop-i
invariant-loop-i l = Looked l.self l.w l.group l.i l.seen
