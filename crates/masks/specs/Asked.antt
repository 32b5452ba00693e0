-- What a permission's clauses ask.
use Rattle.std.specs.Prelude.{ℕ, ◌≡◌, List, length}

-- the masks' numbers: of those of the numbers of entries, of the numbers of roles, and of the roles
pub record Room (e n r : List ℕ) : Type 0 where
  pub entries : length e ≡ 7
  pub numbers : length n ≡ 9
  pub roles : length r ≡ 8
