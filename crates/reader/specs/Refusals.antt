-- The numbers of the refusals, and what a call's result answers: a number for C, and for the definitions.
use Rattle.std.specs.Prelude.{ℕ, Result, Ok, Err}
use Rattle.reader.specs.declared.refusal.Refusal.{Refusal}
use Rattle.reader.specs.declared.refusal.Refusal.TheVariants.{BaseLength, Letters, Trailer, Hierarchy, Users, Clauses}
use Rattle.reader.specs.declared.refusal.Refusal.TheVariants.{Contexts, Policies, Exclusions, Permission, Context}
use Rattle.reader.specs.declared.refusal.Refusal.TheVariants.{GroupLength, Unknown, Twice, Ineligible, Weightless}
use Rattle.reader.specs.declared.refusal.Refusal.TheVariants.{Unmet, ConflictRoom, ReportRoom, FullSheet, Change}
use Rattle.reader.specs.declared.refusal.Refusal.TheVariants.{Rules, NotSigned, OutOfDate, Register, Unvouched}
use Rattle.reader.specs.declared.refusal.Refusal.TheVariants.{Threshold, Queries}
use Rattle.reader.specs.declared.refusal.Refused.{Refused}
use Rattle.reader.specs.declared.Answer.{Answer}

-- a refusal's number in document 01's list, as the requests extend it
abbrev pub refusal_number : Refusal → ℕ
refusal_number BaseLength = 1
refusal_number Letters = 2
refusal_number Trailer = 3
refusal_number Hierarchy = 4
refusal_number Users = 5
refusal_number Clauses = 6
refusal_number Contexts = 7
refusal_number Policies = 8
refusal_number Exclusions = 9
refusal_number Permission = 10
refusal_number Context = 11
refusal_number GroupLength = 12
refusal_number Unknown = 13
refusal_number Twice = 14
refusal_number Ineligible = 15
refusal_number Weightless = 16
refusal_number Unmet = 17
refusal_number ConflictRoom = 18
refusal_number ReportRoom = 19
refusal_number FullSheet = 20
refusal_number Change = 21
refusal_number Rules = 22
refusal_number NotSigned = 23
refusal_number OutOfDate = 24
refusal_number Register = 25
refusal_number Unvouched = 26
refusal_number Threshold = 27
refusal_number Queries = 28

-- a refusal that carries 0
abbrev pub carrying_nothing : Refusal → Refused
carrying_nothing r = record { refusal = r; count = 0 }

-- 0, or the number of the refusal
abbrev pub number_of : {X : Type 0} → Result X Refusal → ℕ
number_of (Ok x) = 0
number_of (Err r) = refusal_number r

-- 0 and the number, or the refusal's number and what it carries
abbrev pub answer_from : Result ℕ Refused → Answer
answer_from (Ok n) = record { refusal = 0; count = n }
answer_from (Err r) = record { refusal = refusal_number r.refusal; count = r.count }
