-- The table passed the check, so a clause has at most 4 conditions.
use Rattle.std.proofs.Common.{ap, ◌∙◌}
use Rattle.reader.specs.Tables.{clauses}
use Rattle.reader.specs.Fields.{clause_length}
use Rattle.reader.proofs.Accepted.{clause_fine, record_within}
use Rattle.masks.proofs.table.GroupClauses.length.Goals as goal

pub count-requires : goal.count-requires
count-requires c = record_within clauses _ c.args.i (rw c.self.view_is c.requires)

pub returns : goal.returns
returns c =
    let t = c.self.invariant in
    let fine = clause_fine t.roles t.permissions _ c.args.i t.fine (rw c.self.view_is c.requires) in
    let is = c.count.ensures.0 in
    (is ∙ ap (λ k. clause_length k c.args.i) c.self.view_is, rw is fine.at_most)
