-- The answers to the queries below i stand in the buffer, before what stood there.
use Rattle.std.proofs.Common.{◌≡◌, ◌++◌, drop}
use Rattle.batch.specs.Batch.{answers_below}
use Rattle.batch.proofs.answer_many.Given as goal

abbrev pub invariant-loop-i : goal.invariant-loop-i
invariant-loop-i l =
    l.answers ≡ answers_below l.i l.fn.base l.fn.s.at l.queries ++ drop l.i l.initial.answers
