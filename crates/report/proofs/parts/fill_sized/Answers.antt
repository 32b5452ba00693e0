-- `fill_sized` meets its contract: its search is ready for each permission.
use Rattle.std.proofs.Common.{ℕ, List, ◌≡◌, refl, arith}
use mathlib.Core.Path.{◌∙◌}
use Rattle.report.specs.Smallest.{Deciding}
use Rattle.report.specs.Parts.{FilledBy, UsersOf, decided}
use Rattle.weights.specs.declared.Context.{Context}
use Rattle.report.proofs.parts.fill_sized.Goals as goal

-- as many permissions as the base has
of_all : {decision : Deciding} {n P count : ℕ} {out after : List ℕ} → n ≡ P → FilledBy 0 decision n out after count →
    FilledBy 0 decision P out after count
of_all e f = rw e at f

users_as : {b now nexts : List ℕ} {at : Context} → now ≡ nexts → UsersOf b at nexts → UsersOf b at now
users_as e u = rw e u

pub returns : goal.returns
returns g c =
    let grounds = c.requires.0 in
    let users = c.requires.1 in
    let (roles, nexts) = c.new-tables.ensures in
    of_all c.permission_count.ensures
    (c.fill.ensures 0 (decided c.args.base.now c.args.grounds.now.fixed) (record {
      anybody = refl;
      by = refl;
      permissions = omega (arith, c.permission_count.ensures);
      grounds = grounds;
      users = users_as nexts users;
      roles = roles ∙ c.wide.ensures.0 ∙ c.role_count.ensures.0;
    }))
