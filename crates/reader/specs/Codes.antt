-- Membership: each role has a prime as its identity code; a user's parameter is the product of the codes of that
-- user's roles, each once (004, definitions 18 and 19).
use Rattle.std.specs.Prelude.{ℕ, zero, suc, ◌+◌, ◌%◌, ◌^◌, Bool, ◌&&◌, not, cond, List, [], ◌∷◌, get_or, ltb, eqb}
use Rattle.folds.specs.Below.{any_below, first_below, product_below}
use Rattle.folds.specs.Sets.{in_set}
use Rattle.reader.specs.Tables.{users, role_count, table_of, record_count}
use Rattle.reader.specs.Fields.{parameter}
use Rattle.reader.specs.declared.Answer.{Answer}

-- the identity codes of roles 0 to 7
abbrev pub codes : List ℕ
codes = 3 ∷ 5 ∷ 7 ∷ 11 ∷ 13 ∷ 17 ∷ 19 ∷ 23 ∷ []

abbrev pub code_of : ℕ → ℕ
code_of r = get_or codes r 0

-- the product of the codes of the roles below R that are in the set s (bit r for role r)
unfoldable pub code_product : ℕ → ℕ → ℕ
unfolding product_below in_set
code_product R s = product_below R (λ r. cond (in_set s r) (code_of r) 1)

-- a parameter that is the product over some set of roles below R
unfoldable pub parameter_ok : ℕ → ℕ → Bool
unfolding any_below
parameter_ok R x = any_below (2 ^ R) (λ s. eqb x (code_product R s))

-- the code of role r divides the parameter x
abbrev pub code_divides : ℕ → ℕ → Bool
code_divides r x = eqb (x % code_of r) 0

-- by the bytes of U and R, user u holds role r: both are there, and the role's code divides the user's parameter
unfoldable pub held_by : ℕ → List ℕ → ℕ → ℕ → Bool
held_by R us u r = ltb u (record_count users us) && (ltb r R && code_divides r (parameter us u))

-- membership: user u of the base holds role r
abbrev pub holds : List ℕ → ℕ → ℕ → Bool
holds b u r = held_by (role_count b) (table_of b users) u r

-- the set of roles below R whose product x is; 2 ^ R, which is no such set, where x is no product
unfoldable pub roles_of_product : ℕ → ℕ → ℕ
unfolding first_below
roles_of_product R x = first_below (2 ^ R) (λ s. eqb x (code_product R s))

-- the highest of the roles below n that are in the set s; 0 where there is none
unfoldable pub highest_below : ℕ → ℕ → ℕ
highest_below zero s = 0
highest_below (suc n) s = cond (in_set s n) n (highest_below n s)

-- how many codes the check of the parameter x tries with R roles (02, Six): none for 1, R for a parameter that gets 5,
-- else the highest role's number plus one
unfoldable pub codes_tried : ℕ → ℕ → ℕ
codes_tried R x =
    cond (eqb x 1) 0
    (cond (not (parameter_ok R x)) R
    (highest_below R (roles_of_product R x) + 1))

-- roles above 8 are read as 8
abbrev pub roles_read : ℕ → ℕ
roles_read n = cond (ltb 8 n) 8 n

-- the answer to the check of the parameter x with n roles: 0 or 5; both carry how many codes were tried
unfoldable pub parameter_answer : ℕ → ℕ → Answer
parameter_answer n x =
    record { refusal = cond (parameter_ok (roles_read n) x) 0 5; count = codes_tried (roles_read n) x }
