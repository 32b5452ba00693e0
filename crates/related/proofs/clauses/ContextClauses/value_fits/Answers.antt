-- Condition k of clause s is one of the table's, which passed the check.
use Rattle.related.proofs.Relating.{condition_in_table}
use Rattle.related.proofs.clauses.ContextClauses.value_fits.Goals as goal

pub read-condition-requires : goal.read-condition-requires
read-condition-requires c =
    let (fine, whole) = c.self.invariant in
    condition_in_table _ fine whole c.args.s c.args.k (rw c.self.view_is c.requires)
