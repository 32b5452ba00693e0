-- The policy base: seven tables without gaps, then a trailer of 36 bytes that points back at them.
use Rattle.std.specs.Prelude.{ℕ, ◌+◌, ◌*◌, ◌-◌, ◌/◌, Bool, ◌&&◌, ◌||◌, not, cond, List, [], ◌∷◌, length}
use Rattle.std.specs.Prelude.{get_or, take, drop, ltb, eqb}
use Rattle.folds.specs.Below.{any_below, sum_below}
use Rattle.reader.specs.Bytes.{word16}

-- the tables, by their place in the base
abbrev pub hierarchy : ℕ
hierarchy = 0

abbrev pub users : ℕ
users = 1

abbrev pub permissions : ℕ
permissions = 2

abbrev pub clauses : ℕ
clauses = 3

abbrev pub contexts : ℕ
contexts = 4

abbrev pub policies : ℕ
policies = 5

abbrev pub exclusions : ℕ
exclusions = 6

-- bytes a record: H, U, P, K, C, A, X
abbrev pub widths : List ℕ
widths = 2 ∷ 8 ∷ 2 ∷ 16 ∷ 16 ∷ 8 ∷ 3 ∷ []

-- records at most: H, U, P, K, C, A, X
abbrev pub limits : List ℕ
limits = 28 ∷ 24 ∷ 16 ∷ 64 ∷ 32 ∷ 64 ∷ 32 ∷ []

abbrev pub width : ℕ → ℕ
width t = get_or widths t 0

abbrev pub limit : ℕ → ℕ
limit t = get_or limits t 0

-- where the trailer starts
abbrev pub trailer : List ℕ → ℕ
trailer b = length b - 36

-- the trailer's pair for table t: offset and record count
unfoldable pub table_offset : List ℕ → ℕ → ℕ
table_offset b t = word16 b (trailer b + 4 * t)

unfoldable pub table_count : List ℕ → ℕ → ℕ
table_count b t = word16 b (trailer b + 4 * t + 2)

-- R, the number of roles
unfoldable pub role_count : List ℕ → ℕ
role_count b = get_or b (trailer b + 28) 0

-- LCAQ in ASCII
abbrev pub letters : List ℕ
letters = 76 ∷ 67 ∷ 65 ∷ 81 ∷ []

-- refusal 1: shorter than 36 or longer than 2,460 bytes
unfoldable pub length_bad : List ℕ → Bool
length_bad b = ltb (length b) 36 || ltb 2460 (length b)

-- refusal 2: the last four bytes aren't LCAQ
abbrev pub letter_bad : List ℕ → ℕ → Bool
letter_bad b i = not (eqb (get_or b (trailer b + 32 + i) 0) (get_or letters i 0))

unfoldable pub letters_bad : List ℕ → Bool
unfolding any_below
letters_bad b = any_below 4 (letter_bad b)

-- R isn't 1 to 8
unfoldable pub roles_bad : List ℕ → Bool
roles_bad b = ltb (role_count b) 1 || ltb 8 (role_count b)

-- one of the three zero bytes after R isn't zero
abbrev pub reserved_byte_bad : List ℕ → ℕ → Bool
reserved_byte_bad b i = not (eqb (get_or b (trailer b + 29 + i) 0) 0)

unfoldable pub reserved_bad : List ℕ → Bool
unfolding any_below
reserved_bad b = any_below 3 (reserved_byte_bad b)

abbrev pub table_size : List ℕ → ℕ → ℕ
table_size b t = table_count b t * width t

-- where table t has to start: behind the tables before it
unfoldable pub table_start : List ℕ → ℕ → ℕ
unfolding sum_below
table_start b t = sum_below t (table_size b)

-- table t's count is above its limit, or its offset isn't where it has to start
abbrev pub table_bad : List ℕ → ℕ → Bool
table_bad b t = ltb (limit t) (table_count b t) || not (eqb (table_offset b t) (table_start b t))

-- a table is bad, or the tables don't end where the trailer starts
unfoldable pub tables_bad : List ℕ → Bool
unfolding any_below
tables_bad b = any_below 7 (table_bad b) || not (eqb (table_start b 7) (trailer b))

-- refusal 3: the rest of the trailer breaks its rules, a count is above its limit, or the tables don't fill
-- the bytes before it in order
unfoldable pub trailer_bad : List ℕ → Bool
trailer_bad b = roles_bad b || (reserved_bad b || tables_bad b)

-- the first of refusals 1 to 3 that applies, or 0: the base has its seven tables
unfoldable pub frame_refusal : List ℕ → ℕ
frame_refusal b = cond (length_bad b) 1 (cond (letters_bad b) 2 (cond (trailer_bad b) 3 0))

-- the part of the base of n bytes from byte a
abbrev pub part_of : List ℕ → ℕ → ℕ → List ℕ
part_of b a n = take n (drop a b)

-- table t: that part of the base; of a base refused by 1 to 3, and for a t that is no table, the empty part at byte 0
unfoldable pub table_of : List ℕ → ℕ → List ℕ
table_of b t = cond (eqb (frame_refusal b) 0 && ltb t 7) (part_of b (table_offset b t) (table_size b t)) (part_of b 0 0)

-- how many records of table t the bytes r hold
abbrev pub record_count : ℕ → List ℕ → ℕ
record_count t r = length r / width t

-- the number of users
abbrev pub user_count : List ℕ → ℕ
user_count b = record_count users (table_of b users)

-- the number of permissions
abbrev pub permission_count : List ℕ → ℕ
permission_count b = record_count permissions (table_of b permissions)

-- the number of policies
abbrev pub policy_count : List ℕ → ℕ
policy_count b = record_count policies (table_of b policies)
