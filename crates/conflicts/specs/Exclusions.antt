-- What an exclusion record says.
use Rattle.std.specs.Prelude.{ℕ, List, cond, eqb}
use Rattle.conflicts.specs.declared.exclusions.Exclusion.{Exclusion}
use Rattle.conflicts.specs.declared.exclusions.Exclusion.TheVariants.{Roles, Permissions}
use Rattle.reader.specs.Fields.{exclusion_kind, exclusion_first, exclusion_second}

-- kind 0: two roles; every other, which is 1 where the check passed: two permissions
abbrev pub exclusion_of : List ℕ → ℕ → Exclusion
exclusion_of x e =
    cond (eqb (exclusion_kind x e) 0)
    (Roles (exclusion_first x e) (exclusion_second x e))
    (Permissions (exclusion_first x e) (exclusion_second x e))
