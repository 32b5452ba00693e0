-- Contexts: a minute, a day and a zone, which context numbers hold there, and a date.
use Rattle.std.specs.Prelude.{ℕ, Bool, true, ◌&&◌, ◌||◌, not, cond, List, ltb, eqb}
use Rattle.folds.specs.Below.{all_below, any_below}
use Rattle.reader.specs.Tables.{contexts, record_count}
use Rattle.reader.specs.Fields.{context_number, context_length, context_parameter, context_operator, context_value}
use Rattle.reader.specs.Rules.{range_of}
use Rattle.weights.specs.declared.Context.{Context}
use Rattle.weights.specs.Operators.{meets}

-- refusal 11: minute, day or zone is out of range, or the date, which is 0 to 65535
unfoldable pub out_of_range : Context → Bool
out_of_range at =
    not (ltb at.minute (range_of 0)) || (not (ltb at.day (range_of 1))
    || (not (ltb at.zone (range_of 2)) || ltb 65535 at.date))

-- the same minute, day and zone on another date
abbrev pub on_date : Context → ℕ → Context
on_date at date = record { minute = at.minute; day = at.day; zone = at.zone; date = date }

-- the context's value of parameter p: minute, day and zone are parameters 0, 1 and 2
unfoldable pub value_of : Context → ℕ → ℕ
value_of at p = cond (eqb p 0) at.minute (cond (eqb p 1) at.day at.zone)

-- condition j of clause i of the table C holds
unfoldable pub context_condition_holds : Context → List ℕ → ℕ → ℕ → Bool
unfolding meets value_of
context_condition_holds at c i j =
    meets (context_operator c i j) (value_of at (context_parameter c i j)) (context_value c i j)

-- a clause holds if its n conditions hold
unfoldable pub context_clause_holds : Context → List ℕ → ℕ → Bool
unfolding all_below context_condition_holds
context_clause_holds at c i = all_below (context_length c i) (context_condition_holds at c i)

-- clause i is one of context number n, and it holds
abbrev pub clause_of_holds : Context → List ℕ → ℕ → ℕ → Bool
clause_of_holds at c n i = eqb (context_number c i) n && context_clause_holds at c i

-- a context number holds if one of its clauses holds; with no clause it never holds; 255 always holds
unfoldable pub context_holds : Context → List ℕ → ℕ → Bool
unfolding any_below context_clause_holds
context_holds at c n = cond (eqb n 255) true (any_below (record_count contexts c) (clause_of_holds at c n))
