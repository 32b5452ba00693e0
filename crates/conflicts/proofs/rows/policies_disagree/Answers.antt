-- `policies_disagree` meets its contract: role and permission are compared first, then weight and type.
use Rattle.std.proofs.Common.{rules, tests}
use Rattle.conflicts.specs.Conflicts.{disagree}
use Rattle.conflicts.proofs.rows.policies_disagree.Goals as goal

pub returns-then-weight : goal.returns-then-weight
unfolding disagree
returns-then-weight c = search (rules, tests)

pub returns-else-weight : goal.returns-else-weight
unfolding disagree
returns-else-weight c = search (rules, tests)

pub returns-else-permission : goal.returns-else-permission
unfolding disagree
returns-else-permission c = search (rules, tests)
