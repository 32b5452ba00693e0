-- The R of a base that passed 1 to 3 is at most 8.
use Rattle.std.proofs.Common.{ap, ◌∙◌}
use Rattle.reader.specs.Tables.{role_count}
use Rattle.reader.proofs.Frame.{roles_range}
use Rattle.reader.proofs.trailer.Frame.role_count.Goals as goal

pub returns : goal.returns
returns c =
    let few = (roles_range _ c.self.invariant).1 in
    (c.role_count.ensures ∙ ap role_count c.self.view_is, rw c.role_count.ensures few)
