-- The answer of a call that also carries a number.
use Rattle.std.specs.Prelude.{ℕ, cond, eqb}
use Rattle.reader.specs.declared.Answer.{Answer}

-- 0 carries the number, a refusal 0
unfoldable pub answered : ℕ → ℕ → Answer
answered refusal number =
    cond (eqb refusal 0) (record { refusal = 0; count = number }) (record { refusal = refusal; count = 0 })
