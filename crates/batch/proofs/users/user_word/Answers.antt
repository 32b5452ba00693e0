-- The user's bit alone, or with the one for a date out of the days.
use Rattle.batch.proofs.Words.{word_in_date, word_late}
use Rattle.batch.proofs.users.user_word.Goals as goal

pub returns-then-late : goal.returns-then-late
returns-then-late c = word_late c.requires c.bit.ensures c.if-late.true c.bit-then-late.ensures

pub returns-else-late : goal.returns-else-late
returns-else-late c = word_in_date c.requires c.bit-else-late.ensures c.if-late.false
