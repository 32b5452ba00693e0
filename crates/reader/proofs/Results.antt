-- What `?` hands on: a refusal's number is never 0, and stays what it was.
use Prim.Native.Nat.{ℕ}
use mathlib.Core.Path.{◌≡◌, ap}
use native.Mathlib.Nat.{suc-ne-zero}
use Rattle.std.specs.Prelude.{Result, Ok, Err}
use mathlib.Core.Bool.{false, true≢false}
use Rattle.std.specs.Result.{IsErrAnd, is_ok}
use Rattle.reader.specs.declared.refusal.Refusal.{Refusal}
use Rattle.reader.specs.declared.refusal.Refusal.TheVariants.{BaseLength, Letters, Trailer, Hierarchy, Users, Clauses}
use Rattle.reader.specs.declared.refusal.Refusal.TheVariants.{Contexts, Policies, Exclusions, Permission, Context}
use Rattle.reader.specs.declared.refusal.Refusal.TheVariants.{GroupLength, Unknown, Twice, Ineligible, Weightless}
use Rattle.reader.specs.declared.refusal.Refusal.TheVariants.{Unmet, ConflictRoom, ReportRoom, FullSheet, Change}
use Rattle.reader.specs.declared.refusal.Refusal.TheVariants.{Rules, NotSigned, OutOfDate, Register, Unvouched}
use Rattle.reader.specs.declared.refusal.Refusal.TheVariants.{Threshold, Queries}
use Rattle.reader.specs.declared.refusal.Refused.{Refused}
use Rattle.reader.specs.Refusals.{refusal_number, number_of, carrying_nothing, answer_from}

pub refusal_pos : (r : Refusal) → refusal_number r ≡ 0 → ⊥
refusal_pos BaseLength h = suc-ne-zero 0 h
refusal_pos Letters h = suc-ne-zero 1 h
refusal_pos Trailer h = suc-ne-zero 2 h
refusal_pos Hierarchy h = suc-ne-zero 3 h
refusal_pos Users h = suc-ne-zero 4 h
refusal_pos Clauses h = suc-ne-zero 5 h
refusal_pos Contexts h = suc-ne-zero 6 h
refusal_pos Policies h = suc-ne-zero 7 h
refusal_pos Exclusions h = suc-ne-zero 8 h
refusal_pos Permission h = suc-ne-zero 9 h
refusal_pos Context h = suc-ne-zero 10 h
refusal_pos GroupLength h = suc-ne-zero 11 h
refusal_pos Unknown h = suc-ne-zero 12 h
refusal_pos Twice h = suc-ne-zero 13 h
refusal_pos Ineligible h = suc-ne-zero 14 h
refusal_pos Weightless h = suc-ne-zero 15 h
refusal_pos Unmet h = suc-ne-zero 16 h
refusal_pos ConflictRoom h = suc-ne-zero 17 h
refusal_pos ReportRoom h = suc-ne-zero 18 h
refusal_pos FullSheet h = suc-ne-zero 19 h
refusal_pos Change h = suc-ne-zero 20 h
refusal_pos Rules h = suc-ne-zero 21 h
refusal_pos NotSigned h = suc-ne-zero 22 h
refusal_pos OutOfDate h = suc-ne-zero 23 h
refusal_pos Register h = suc-ne-zero 24 h
refusal_pos Unvouched h = suc-ne-zero 25 h
refusal_pos Threshold h = suc-ne-zero 26 h
refusal_pos Queries h = suc-ne-zero 27 h

-- a result that holds the refusal r
pub handed_on : {X : Type 0} (r : Refusal) (given : Result X Refusal) → IsErrAnd given (λ e. e ≡ r) →
    number_of given ≡ refusal_number r
handed_on r (Ok x) h = absurd h
handed_on r (Err e) h = ap refusal_number h

-- what isn't `Ok` has a number
pub not_ok : {X : Type 0} (given : Result X Refusal) → is_ok given ≡ false → number_of given ≡ 0 → ⊥
not_ok (Ok x) h e = true≢false h
not_ok (Err r) h e = refusal_pos r e

-- a result that holds the refusal r, which carries 0
pub carried_on : (r : Refusal) (given : Result ℕ Refused) → IsErrAnd given (λ e. e ≡ carrying_nothing r) →
    answer_from given ≡ record { refusal = refusal_number r; count = 0 }
carried_on r (Ok n) h = absurd h
carried_on r (Err e) h = ap (λ (x : Refused). answer_from (Err x)) h
