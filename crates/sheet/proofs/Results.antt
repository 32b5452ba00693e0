-- What the results of the calls on a sheet answer, where they hold a refusal.
use mathlib.Core.Path.{◌≡◌, ap}
use Rattle.std.specs.Prelude.{Result, Ok, Err}
use Rattle.std.specs.Result.{IsErrAnd}
use Rattle.reader.specs.declared.refusal.Refusal.{Refusal}
use Rattle.reader.specs.Refusals.{refusal_number}
use Rattle.sheet.specs.declared.Sheet.{Sheet}
use Rattle.sheet.specs.declared.Unopened.{Unopened}
use Rattle.sheet.specs.Sheets.{unsigned}
use Rattle.sheet.specs.Outcomes.{unopened, opening_outcome, outcome_of}

-- a refused opening
pub unopened_with : (r : Refusal) (given : Result Sheet Unopened) → IsErrAnd given (λ u. u ≡ unopened r) →
    opening_outcome given ≡ record { refusal = refusal_number r; sheet = unsigned 255 }
unopened_with r (Ok s) h = absurd h
unopened_with r (Err u) h = ap (λ (x : Unopened). opening_outcome (Err x)) h

-- a refused signing or withdrawal
pub refused_with : (s : Sheet) (r : Refusal) (given : Result Sheet Refusal) → IsErrAnd given (λ e. e ≡ r) →
    outcome_of s given ≡ record { refusal = refusal_number r; sheet = s }
refused_with s r (Ok t) h = absurd h
refused_with s r (Err e) h = ap (λ (x : Refusal). outcome_of s (Err x)) h
