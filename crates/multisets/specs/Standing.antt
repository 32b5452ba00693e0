-- Groups as lists of entries the other way round: the last entry first. Working notions of the search.
use Rattle.std.specs.Prelude.{ℕ, ◌+◌, ◌<◌, ◌≤◌, true, ◌≡◌, List, [], ◌∷◌, ◌++◌, get_or}
use Rattle.folds.specs.Sets.{in_set}
use Rattle.multisets.specs.Rising.{Entry}

-- an entry whose user may act in its role, one below d, by the sets of roles that each user may act in
pub record Acts (sets : List ℕ) (d : ℕ) (e : Entry) : Type 0 where
  pub role : e.role < d
  pub acting : in_set (get_or sets e.user 0) e.role ≡ true

-- one past the last user
abbrev pub end_of : List Entry → ℕ
end_of [] = 0
end_of (e ∷ g) = e.user + 1

-- each entry's user may act in its role, and comes after the users of the entries behind it in the list
abbrev pub Stands : List ℕ → ℕ → List Entry → Type 0
Stands sets d [] = Unit {0}
Stands sets d (e ∷ g) = (end_of g ≤ e.user) × Acts sets d e × Stands sets d g

-- the roles acted in
abbrev pub role_list : List Entry → List ℕ
role_list [] = []
role_list (e ∷ g) = e.role ∷ role_list g

-- the bytes of the group, by rising user
abbrev pub bytes_back : List Entry → List ℕ
bytes_back [] = []
bytes_back (e ∷ g) = bytes_back g ++ (e.user ∷ e.role ∷ [])
