-- The register of statements by which one approver trusts another (02, Nine; 004, section 6.2): records of 8 bytes.
use Rattle.std.specs.Prelude.{ℕ, ◌+◌, ◌*◌, ◌/◌, ◌%◌, Bool, ◌||◌, not, List, length, get_or, ltb, eqb}
use Rattle.folds.specs.Below.{any_below}
use Rattle.reader.specs.Bytes.{word16}
use Rattle.reader.specs.Rules.{outside}

-- bytes a statement, and bytes a register has at most
abbrev pub statement_width : ℕ
statement_width = 8

abbrev pub register_limit : ℕ
register_limit = 2048

-- the number of whole statements
abbrev pub statement_count : List ℕ → ℕ
statement_count register = length register / statement_width

-- a statement's fields: issuer, requester, permission, trust; first day, last day in 2 bytes each
abbrev pub issuer : List ℕ → ℕ → ℕ
issuer register i = get_or register (statement_width * i) 0

abbrev pub requester : List ℕ → ℕ → ℕ
requester register i = get_or register (statement_width * i + 1) 0

abbrev pub stated_permission : List ℕ → ℕ → ℕ
stated_permission register i = get_or register (statement_width * i + 2) 0

abbrev pub trust : List ℕ → ℕ → ℕ
trust register i = get_or register (statement_width * i + 3) 0

abbrev pub valid_from : List ℕ → ℕ → ℕ
valid_from register i = word16 register (statement_width * i + 4)

abbrev pub valid_to : List ℕ → ℕ → ℕ
valid_to register i = word16 register (statement_width * i + 6)

-- statement i names a user or a permission that isn't there, of U users and P permissions, or its trust isn't 1 to 5,
-- or its first day is above the last
abbrev pub statement_bad : ℕ → ℕ → List ℕ → ℕ → Bool
statement_bad U P register i =
    not (ltb (issuer register i) U) || (not (ltb (requester register i) U)
    || (not (ltb (stated_permission register i) P)
    || (outside 1 5 (trust register i) || ltb (valid_to register i) (valid_from register i))))

-- refusal 25: the length isn't a multiple of 8 or exceeds 2,048, or a statement is bad
unfoldable pub register_refused : ℕ → ℕ → List ℕ → Bool
unfolding any_below
register_refused U P register =
    not (eqb (length register % statement_width) 0) || (ltb register_limit (length register)
    || any_below (statement_count register) (statement_bad U P register))

-- refusal 27: the threshold isn't 1 to 5
abbrev pub threshold_refused : ℕ → Bool
threshold_refused threshold = outside 1 5 threshold
