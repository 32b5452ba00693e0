use Rattle.std.proofs.Common.{rules, tests, arith}
use Rattle.std.proofs.lemmas.Grind.{common_steps}
use Rattle.std.proofs.lemmas.Bool.Decides.{nat_tests}
use Rattle.reader.specs.Codes.{held_by}
use Rattle.reader.proofs.codes.held_by.Goals as goal

pub returns-then-role-from : goal.returns-then-role-from
unfolding held_by
returns-then-role-from c = grind (arith, nat_tests, common_steps)

pub returns-else-role-from : goal.returns-else-role-from
unfolding held_by
returns-else-role-from c = search (rules, tests)
