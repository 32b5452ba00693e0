-- Each turn writes the words of one user.
use Rattle.batch.proofs.Words.{WordsTo}
use Rattle.batch.proofs.users.words_of.Given as goal

abbrev pub invariant-loop-u : goal.invariant-loop-u
invariant-loop-u l = WordsTo l.acting l.s.at l.u l.words
