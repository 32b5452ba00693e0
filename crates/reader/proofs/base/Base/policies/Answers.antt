-- The table A of an accepted base passed the check, with at most 8 roles and 16 permissions.
use lib.Dec.{lit<}
use Rattle.reader.specs.Tables.{policies}
use Rattle.reader.proofs.Accepted.{policies_small, records_le}
use Rattle.reader.proofs.base.Base.policies.Goals as goal

pub invariant_of-result : goal.invariant_of-result
invariant_of-result c =
    let ok = c.part.ensures.accepted in
    rw c.part.ensures.table (policies_small _ ok, records_le _ ok policies (lit< tt))
