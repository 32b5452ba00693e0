-- The permission's condition on a group: on the number of entries, the sum of the roles' weights and the set of roles.
use Rattle.std.specs.Prelude.{ℕ, Bool, ◌&&◌, cond, List, eqb}
use Rattle.folds.specs.Below.{all_below, any_below, count_below}
use Rattle.folds.specs.Sets.{in_set}
use Rattle.reader.specs.Tables.{clauses, record_count}
use Rattle.reader.specs.Fields.{clause_permission, clause_length}
use Rattle.reader.specs.Fields.{condition_attribute, condition_operator, condition_value}
use Rattle.weights.specs.Operators.{meets}

-- role_num: the number of different roles in the set; the law `role_num_lem` says that it is that of the roles acted in
unfoldable pub role_num : ℕ → ℕ
unfolding count_below
role_num set = count_below 8 (in_set set)

-- attribute 0 is the number of entries, 1 the sum, 2 the number of different roles acted in, 3 the set of them
unfoldable pub attribute : ℕ → ℕ → ℕ → ℕ → ℕ
unfolding role_num
attribute number sum set a = cond (eqb a 0) number (cond (eqb a 1) sum (cond (eqb a 2) (role_num set) set))

-- condition j of clause i of the table K holds
unfoldable pub condition_holds : List ℕ → ℕ → ℕ → ℕ → ℕ → ℕ → Bool
unfolding meets attribute
condition_holds k number sum set i j =
    meets (condition_operator k i j) (attribute number sum set (condition_attribute k i j)) (condition_value k i j)

-- a clause holds if its n conditions hold
unfoldable pub clause_holds : List ℕ → ℕ → ℕ → ℕ → ℕ → Bool
unfolding all_below condition_holds
clause_holds k number sum set i = all_below (clause_length k i) (condition_holds k number sum set i)

-- clause i is one of permission p, and it holds
abbrev pub clause_of_holds : List ℕ → ℕ → ℕ → ℕ → ℕ → ℕ → Bool
clause_of_holds k p number sum set i = eqb (clause_permission k i) p && clause_holds k number sum set i

-- the permission's condition holds if one of its clauses does; with no clause it never holds
unfoldable pub permission_holds : List ℕ → ℕ → ℕ → ℕ → ℕ → Bool
unfolding any_below clause_holds
permission_holds k p number sum set = any_below (record_count clauses k) (clause_of_holds k p number sum set)
