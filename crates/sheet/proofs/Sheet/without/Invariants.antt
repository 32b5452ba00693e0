use Rattle.std.proofs.Common.{◌≡◌}
use Rattle.sheet.specs.Sheets.{held_on, is_another}
use Rattle.sheet.proofs.Staying.{StayedYet}
use Rattle.sheet.proofs.Sheet.without.Given as goal

-- the sheet holds those of the entries before the rest that are another user's
abbrev pub invariant-loop-bytes : goal.invariant-loop-bytes
invariant-loop-bytes l =
    StayedYet (is_another l.user) (held_on l.self) l.self.permission l.left l.bytes-iterator.rest.now
    × (l.bytes-iterator.size ≡ 2)
