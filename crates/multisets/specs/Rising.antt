-- Groups as lists of entries by rising user. Working notions of the search: the promise speaks of bytes.
use Rattle.std.specs.Prelude.{ℕ, ◌+◌, ◌^◌, ◌<◌, ◌≤◌, true, ◌≡◌, List, [], ◌∷◌, get_or}
use Rattle.std.specs.Int.Bits.{bit_or}
use Rattle.folds.specs.Sets.{in_set}

-- an entry: a user, and the role acted in
pub record Entry : Type 0 where
  pub user : ℕ
  pub role : ℕ

-- an entry that may stand in a group: by the sets of roles that each user may act in, and the roles' weights
pub record May (sets w : List ℕ) (e : Entry) : Type 0 where
  pub role : e.role < 8
  pub acting : in_set (get_or sets e.user 0) e.role ≡ true
  pub heavy : 0 < get_or w e.role 0

-- the users rise strictly from `from` on, and each entry may stand there
abbrev pub Rises : List ℕ → List ℕ → ℕ → List Entry → Type 0
Rises sets w from [] = Unit {0}
Rises sets w from (e ∷ g) = (from ≤ e.user) × May sets w e × Rises sets w (e.user + 1) g

-- the sum of the roles' weights
abbrev pub entries_sum : List ℕ → List Entry → ℕ
entries_sum w [] = 0
entries_sum w (e ∷ g) = get_or w e.role 0 + entries_sum w g

-- the set of the roles acted in
abbrev pub entries_roles : List Entry → ℕ
entries_roles [] = 0
entries_roles (e ∷ g) = bit_or (2 ^ e.role) (entries_roles g)

-- the bytes of the group
abbrev pub bytes_of : List Entry → List ℕ
bytes_of [] = []
bytes_of (e ∷ g) = e.user ∷ e.role ∷ bytes_of g
