-- `role_num` meets its contract: a set has as many ones as members.
use mathlib.Core.Path.{sym, ap, ◌∙◌}
use borrow.Author.Rules.{rules}
use lib.Count.{ones}
use Rattle.folds.proofs.Sets.{set_of_members, ones_set}
use Rattle.folds.specs.Sets.{in_set}
use Rattle.decision.specs.Conditions.{role_num}
use Rattle.decision.proofs.conditions.role_num.Goals as goal

pub returns : goal.returns
unfolding role_num
returns c = ap ones (sym (set_of_members 8 _ (search rules))) ∙ ones_set (in_set c.args.set) 8
