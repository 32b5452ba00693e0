-- The rules by their bytes.
use Rattle.std.specs.Prelude.{ℕ, ◌≡◌, ◌<◌, Result, MatchResult}
use Rattle.reader.specs.declared.refusal.Refusal.{Refusal}
use Rattle.reader.specs.Refusals.{refusal_number}
use Rattle.resolution.specs.declared.Rule.{Rule}
use Rattle.resolution.specs.declared.Rule.TheVariants.{LaterDay, LargerRank, SmallerWeight}

-- the byte of a rule in a list
abbrev pub byte_of : Rule → ℕ
byte_of LaterDay = 0
byte_of LargerRank = 1
byte_of SmallerWeight = 2

-- the rule of this byte, or refusal 22 where the byte is none of 0, 1 and 2
abbrev pub Names : ℕ → Result Rule Refusal → Type 0
Names byte r = MatchResult r (λ rule. byte_of rule ≡ byte) (λ refusal. (refusal_number refusal ≡ 22) × (2 < byte))
