-- The days of a user (02, Seven), against a date.
use Rattle.std.specs.Prelude.{ℕ, Bool, List}
use Rattle.reader.specs.Fields.{first_day, last_day}
use Rattle.reader.specs.Rules.{outside}

-- by the bytes of U, the date is before the first or after the last day of user u
abbrev pub out_of_days : List ℕ → ℕ → ℕ → Bool
out_of_days us date u = outside (first_day us u) (last_day us u) date
