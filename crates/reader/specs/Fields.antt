-- The fields of the records by name. The first argument is the bytes of the field's table, the second the record's
-- number.
use Rattle.std.specs.Prelude.{ℕ, ◌+◌, ◌*◌, List, get_or}
use Rattle.reader.specs.Bytes.{word16, word32}
use Rattle.reader.specs.Tables.{width, hierarchy, users, permissions, clauses, contexts, policies, exclusions}

-- H: senior role, junior role
abbrev pub senior : List ℕ → ℕ → ℕ
senior h i = get_or h (width hierarchy * i) 0

abbrev pub junior : List ℕ → ℕ → ℕ
junior h i = get_or h (width hierarchy * i + 1) 0

-- U: role assignment parameter; first day, last day in 2 bytes each
abbrev pub parameter : List ℕ → ℕ → ℕ
parameter u i = word32 u (width users * i)

abbrev pub first_day : List ℕ → ℕ → ℕ
first_day u i = word16 u (width users * i + 4)

abbrev pub last_day : List ℕ → ℕ → ℕ
last_day u i = word16 u (width users * i + 6)

-- P: operation, object
abbrev pub operation : List ℕ → ℕ → ℕ
operation p i = get_or p (width permissions * i) 0

abbrev pub object : List ℕ → ℕ → ℕ
object p i = get_or p (width permissions * i + 1) 0

-- K: permission; count n; four conditions of 3 bytes (attribute, operator, value); 2 zero bytes
abbrev pub clause_permission : List ℕ → ℕ → ℕ
clause_permission k i = get_or k (width clauses * i) 0

abbrev pub clause_length : List ℕ → ℕ → ℕ
clause_length k i = get_or k (width clauses * i + 1) 0

abbrev pub condition_attribute : List ℕ → ℕ → ℕ → ℕ
condition_attribute k i j = get_or k (width clauses * i + 3 * j + 2) 0

abbrev pub condition_operator : List ℕ → ℕ → ℕ → ℕ
condition_operator k i j = get_or k (width clauses * i + 3 * j + 3) 0

abbrev pub condition_value : List ℕ → ℕ → ℕ → ℕ
condition_value k i j = get_or k (width clauses * i + 3 * j + 4) 0

-- C: context number; count n; three conditions of 4 bytes (parameter, operator, value in 2 bytes); 2 zero bytes
abbrev pub context_number : List ℕ → ℕ → ℕ
context_number c i = get_or c (width contexts * i) 0

abbrev pub context_length : List ℕ → ℕ → ℕ
context_length c i = get_or c (width contexts * i + 1) 0

abbrev pub context_parameter : List ℕ → ℕ → ℕ → ℕ
context_parameter c i j = get_or c (width contexts * i + 4 * j + 2) 0

abbrev pub context_operator : List ℕ → ℕ → ℕ → ℕ
context_operator c i j = get_or c (width contexts * i + 4 * j + 3) 0

abbrev pub context_value : List ℕ → ℕ → ℕ → ℕ
context_value c i j = word16 c (width contexts * i + 4 * j + 4)

-- the number n of conditions of a K or a C record, clause_length or context_length
abbrev pub condition_count : List ℕ → ℕ → ℕ
condition_count r i = get_or r (16 * i + 1) 0

-- the 2 zero bytes at the end of a K or a C record
abbrev pub zero_byte14 : List ℕ → ℕ → ℕ
zero_byte14 r i = get_or r (16 * i + 14) 0

abbrev pub zero_byte15 : List ℕ → ℕ → ℕ
zero_byte15 r i = get_or r (16 * i + 15) 0

-- A: role; permission; weight; type; context number; granter's rank; issue day in 2 bytes
abbrev pub policy_role : List ℕ → ℕ → ℕ
policy_role a i = get_or a (width policies * i) 0

abbrev pub policy_permission : List ℕ → ℕ → ℕ
policy_permission a i = get_or a (width policies * i + 1) 0

-- where the weight of policy i stands
abbrev pub weight_place : ℕ → ℕ
weight_place i = width policies * i + 2

abbrev pub policy_weight : List ℕ → ℕ → ℕ
policy_weight a i = get_or a (weight_place i) 0

abbrev pub policy_type : List ℕ → ℕ → ℕ
policy_type a i = get_or a (width policies * i + 3) 0

abbrev pub policy_context : List ℕ → ℕ → ℕ
policy_context a i = get_or a (width policies * i + 4) 0

abbrev pub policy_rank : List ℕ → ℕ → ℕ
policy_rank a i = get_or a (width policies * i + 5) 0

abbrev pub policy_issue_day : List ℕ → ℕ → ℕ
policy_issue_day a i = word16 a (width policies * i + 6)

-- X: kind; a; b
abbrev pub exclusion_kind : List ℕ → ℕ → ℕ
exclusion_kind x i = get_or x (width exclusions * i) 0

abbrev pub exclusion_first : List ℕ → ℕ → ℕ
exclusion_first x i = get_or x (width exclusions * i + 1) 0

abbrev pub exclusion_second : List ℕ → ℕ → ℕ
exclusion_second x i = get_or x (width exclusions * i + 2) 0
