-- `frame_refusal` is a chain of three tests.
use Rattle.std.proofs.Common.{rules, sym, ◌∙◌}
use Rattle.reader.specs.Tables.{frame_refusal}
use Rattle.reader.proofs.Frame.{long_enough}
use Rattle.reader.proofs.trailer.Frame.of.Goals as goal

pub returns-then-length_bad : goal.returns-then-length_bad
unfolding frame_refusal
returns-then-length_bad c = search rules

pub of-trailer-requires : goal.of-trailer-requires
of-trailer-requires c = long_enough _ (sym c.length_bad.ensures ∙ c.if-length_bad.false)

pub returns-then-letters_bad : goal.returns-then-letters_bad
unfolding frame_refusal
returns-then-letters_bad c = search rules

pub returns-then-is_bad : goal.returns-then-is_bad
unfolding frame_refusal
returns-then-is_bad c = search rules

pub invariant_of-result : goal.invariant_of-result
unfolding frame_refusal
invariant_of-result c = search rules

pub returns : goal.returns
unfolding frame_refusal
returns c = search rules
