use Rattle.folds.proofs.Bools.{not_ltb}
use Rattle.reader.specs.Rules.{clause_slot_bad, clause_bad}
use Rattle.reader.proofs.clauses.clause_bad.Goals as goal

pub returns : goal.returns
unfolding clause_bad clause_slot_bad
returns c = rw (c.rest_bad.ensures, not_ltb _ c.args.numbers.permissions)
