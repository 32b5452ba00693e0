-- The places of the tables.
use Rattle.std.specs.Prelude.{ℕ}
use Rattle.reader.specs.Tables.{hierarchy, users, permissions, clauses, contexts, policies, exclusions}
use Rattle.reader.specs.declared.tables.Table.{Table}
use Rattle.reader.specs.declared.tables.Table.TheVariants.{Hierarchy, Users, Permissions, Clauses, Contexts, Policies}
use Rattle.reader.specs.declared.tables.Table.TheVariants.{Exclusions}

-- a table's place in the base
abbrev pub place_of : Table → ℕ
place_of Hierarchy = hierarchy
place_of Users = users
place_of Permissions = permissions
place_of Clauses = clauses
place_of Contexts = contexts
place_of Policies = policies
place_of Exclusions = exclusions
