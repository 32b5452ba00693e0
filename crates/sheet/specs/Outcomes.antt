-- What the results of the calls on a sheet answer.
use Rattle.std.specs.Prelude.{Result, Ok, Err}
use Rattle.reader.specs.declared.refusal.Refusal.{Refusal}
use Rattle.reader.specs.Refusals.{refusal_number}
use Rattle.sheet.specs.declared.Sheet.{Sheet}
use Rattle.sheet.specs.declared.Unopened.{Unopened}
use Rattle.sheet.specs.Sheets.{Outcome, unsigned}

-- a refused opening gives the unsigned sheet for permission 255
abbrev pub unopened : Refusal → Unopened
unopened r = record { refusal = r; sheet = unsigned 255 }

-- of an opening: 0 and the sheet, or the refusal and the sheet given all the same
abbrev pub opening_outcome : Result Sheet Unopened → Outcome
opening_outcome (Ok s) = record { refusal = 0; sheet = s }
opening_outcome (Err u) = record { refusal = refusal_number u.refusal; sheet = u.sheet }

-- of a signing or a withdrawal on the sheet s: 0 and the sheet, or the refusal and the sheet as it was
abbrev pub outcome_of : Sheet → Result Sheet Refusal → Outcome
outcome_of s (Ok t) = record { refusal = 0; sheet = t }
outcome_of s (Err r) = record { refusal = refusal_number r; sheet = s }
