-- An answer as one number, for C.
use Rattle.std.specs.Prelude.{ℕ, ◌+◌, ◌*◌, ◌/◌, ◌%◌}
use Rattle.reader.specs.declared.Answer.{Answer}

-- the refusal plus 256 times the count
abbrev pub packed : Answer → ℕ
packed a = a.refusal + 256 * a.count

-- the answer that a number carries
abbrev pub unpacked : ℕ → Answer
unpacked n = record { refusal = n % 256; count = n / 256 }
