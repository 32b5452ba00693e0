-- Related context numbers.
use Rattle.std.specs.Prelude.{ℕ, ◌+◌, Bool, ◌&&◌, ◌||◌, not, cond, List, ltb, eqb}
use Rattle.folds.specs.Below.{all_below, any_below}
use Rattle.reader.specs.Tables.{contexts, record_count}
use Rattle.reader.specs.Fields.{context_number, context_length, context_parameter, context_operator, context_value}
use Rattle.reader.specs.Rules.{range_of}
use Rattle.weights.specs.declared.Context.{Context}
use Rattle.weights.specs.Operators.{meets}
use Rattle.weights.specs.Contexts.{context_holds}

-- the context satisfies both numbers
abbrev pub both_hold : List ℕ → ℕ → ℕ → Context → Bool
both_hold c x y at = context_holds at c x && context_holds at c y

-- some one minute, day and zone satisfies both numbers on a date
unfoldable pub related_on : ℕ → List ℕ → ℕ → ℕ → Bool
related_on date c x y =
    any_below (range_of 0)
    (λ m.
    any_below (range_of 1)
    (λ d. any_below (range_of 2) (λ z. both_hold c x y (record { minute = m; day = d; zone = z; date = date }))))

-- two context numbers are related if some one context (minute, day, zone) satisfies both; the law `any_date` says that
-- every date gives the same. The definition; the code never runs it
abbrev pub related : List ℕ → ℕ → ℕ → Bool
related c x y = related_on 0 c x y

-- The computed test, which the laws in proofs/Relating.antt tie to the above.

-- clause i is one of context number n; 255 counts as one clause without conditions, behind the others
abbrev pub clause_of : List ℕ → ℕ → ℕ → Bool
clause_of c n i = cond (ltb i (record_count contexts c)) (eqb (context_number c i) n) (eqb n 255)

-- value v of parameter p meets condition k of clause i, where that is on p
abbrev pub fits_at : List ℕ → ℕ → ℕ → ℕ → ℕ → Bool
fits_at c i p v k = not (eqb (context_parameter c i k) p) || meets (context_operator c i k) v (context_value c i k)

-- value v of parameter p meets the conditions of clause i on that parameter
unfoldable pub fits : List ℕ → ℕ → ℕ → ℕ → Bool
fits c i p v = all_below (context_length c i) (fits_at c i p v)

-- v is a value of parameter p that meets the conditions of both clauses
unfoldable pub both_fit : List ℕ → ℕ → ℕ → ℕ → ℕ → Bool
both_fit c i j p v = ltb v (range_of p) && (fits c i p v && fits c j p v)

-- condition k of clause s is on parameter p, and its value, or one more, meets the conditions of clauses i and j
abbrev pub value_fits : List ℕ → ℕ → ℕ → ℕ → ℕ → ℕ → Bool
value_fits c s i j p k =
    eqb (context_parameter c s k) p
    && (both_fit c i j p (context_value c s k) || both_fit c i j p (context_value c s k + 1))

-- some condition's value of clause s, or one more, does
unfoldable pub some_value_fits : List ℕ → ℕ → ℕ → ℕ → ℕ → Bool
some_value_fits c s i j p = any_below (context_length c s) (value_fits c s i j p)

-- some value of parameter p meets the conditions of both clauses: 0, or a condition's value, or one more
unfoldable pub meetable : List ℕ → ℕ → ℕ → ℕ → Bool
meetable c i j p = both_fit c i j p 0 || (some_value_fits c i i j p || some_value_fits c j i j p)

-- clauses i and j can hold together
unfoldable pub compatible : List ℕ → ℕ → ℕ → Bool
compatible c i j = all_below 3 (meetable c i j)

-- clause j of context number y can hold together with clause i
abbrev pub joins : List ℕ → ℕ → ℕ → ℕ → Bool
joins c y i j = clause_of c y j && compatible c i j

-- clause i of context number x can hold together with some clause of context number y
abbrev pub meets_some : List ℕ → ℕ → ℕ → ℕ → Bool
meets_some c x y i = clause_of c x i && any_below (record_count contexts c + 1) (joins c y i)
