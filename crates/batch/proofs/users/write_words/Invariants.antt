-- Each turn writes one role's word.
use Rattle.std.proofs.Common.{cond, bit_or, ◌^◌}
use Rattle.folds.specs.Sets.{in_set}
use Rattle.folds.proofs.Changing.{Changed}
use Rattle.batch.proofs.users.write_words.Given as goal

abbrev pub invariant-loop-r : goal.invariant-loop-r
invariant-loop-r l =
    Changed (λ r word. cond (in_set l.able r) l.user (bit_or l.user (2 ^ 24))) l.r l.initial.words l.words
