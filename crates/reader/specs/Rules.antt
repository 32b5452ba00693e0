-- The base check: refusals 4 to 9, each over all records of its table, and the chain of 1 to 9.
-- R is the number of roles, P the number of permissions. A test is true where the input is bad.
use Rattle.std.specs.Prelude.{ℕ, ◌^◌, Bool, ◌&&◌, ◌||◌, not, cond, List, [], ◌∷◌, get_or, ltb, eqb}
use Rattle.folds.specs.Below.{any_below}
use Rattle.reader.specs.Tables.{hierarchy, users, clauses, contexts, policies, exclusions, record_count}
use Rattle.reader.specs.Tables.{role_count, permission_count, table_of, length_bad, letters_bad, trailer_bad}
use Rattle.reader.specs.Fields.{senior, junior, parameter, first_day, last_day, clause_permission, clause_length}
use Rattle.reader.specs.Fields.{condition_attribute, condition_operator, condition_value}
use Rattle.reader.specs.Fields.{context_number, context_length, context_parameter, context_operator, context_value}
use Rattle.reader.specs.Fields.{condition_count, zero_byte14, zero_byte15}
use Rattle.reader.specs.Fields.{policy_role, policy_permission, policy_weight}
use Rattle.reader.specs.Fields.{policy_type, policy_context, exclusion_kind, exclusion_first, exclusion_second}
use Rattle.reader.specs.Codes.{parameter_ok}

abbrev nonzero : ℕ → Bool
nonzero x = not (eqb x 0)

-- x isn't a number from lo to hi
abbrev pub outside : ℕ → ℕ → ℕ → Bool
outside lo hi x = ltb x lo || ltb hi x

-- refusal 4: senior not below junior, or junior not below R
abbrev pub hierarchy_record_bad : ℕ → List ℕ → ℕ → Bool
hierarchy_record_bad R h i = not (ltb (senior h i) (junior h i)) || not (ltb (junior h i) R)

unfoldable pub hierarchy_bad : ℕ → List ℕ → Bool
unfolding any_below
hierarchy_bad R h = any_below (record_count hierarchy h) (hierarchy_record_bad R h)

-- refusal 5: a user's parameter is no product of different codes of roles below R, or the first day is above the last
abbrev pub user_bad : ℕ → List ℕ → ℕ → Bool
user_bad R u i = not (parameter_ok R (parameter u i)) || ltb (last_day u i) (first_day u i)

unfoldable pub users_bad : ℕ → List ℕ → Bool
unfolding any_below
users_bad R u = any_below (record_count users u) (user_bad R u)

-- the three numbers of a slot aren't all zero
abbrev pub some_nonzero : ℕ → ℕ → ℕ → Bool
some_nonzero x y z = nonzero x || (nonzero y || nonzero z)

-- slot j of K or C record i: one of the n, which keeps the rules, or one beyond n, which is zero bytes; by what the
-- slot reads as, and two tests of that
abbrev pub slot_bad : {C : Type 0} → (List ℕ → ℕ → ℕ → C) → (C → Bool) → (C → Bool) → List ℕ → ℕ → ℕ → Bool
slot_bad at bad some r i j = cond (ltb j (condition_count r i)) (bad (at r i j)) (some (at r i j))

-- what a K or C record breaks behind its first byte, by the tests of its slots, of which it has so many
abbrev pub rest_bad : ℕ → (ℕ → Bool) → List ℕ → ℕ → Bool
rest_bad slots test r i =
    outside 1 slots (condition_count r i)
    || (any_below slots test || (nonzero (zero_byte14 r i) || nonzero (zero_byte15 r i)))

-- a group condition: attributes 0 to 2 take operators 0 to 5; attribute 3 takes only operator 6 and a value with
-- no bit at R or above
unfoldable pub condition_bad : ℕ → ℕ → ℕ → ℕ → Bool
condition_bad R attribute operator value =
    cond (ltb attribute 3) (ltb 5 operator)
    (not (eqb attribute 3) || (not (eqb operator 6) || not (ltb value (2 ^ R))))

-- condition j of K record i: one of the n, which keeps the rules, or one beyond n, which is zero bytes
unfoldable pub clause_slot_bad : ℕ → List ℕ → ℕ → ℕ → Bool
unfolding condition_bad
clause_slot_bad R k i j =
    cond (ltb j (clause_length k i))
    (condition_bad R (condition_attribute k i j) (condition_operator k i j) (condition_value k i j))
    (nonzero (condition_attribute k i j) || (nonzero (condition_operator k i j) || nonzero (condition_value k i j)))

-- refusal 6: a K record breaks its rules or names a permission that isn't in P
unfoldable pub clause_bad : ℕ → ℕ → List ℕ → ℕ → Bool
unfolding any_below
clause_bad R P k i =
    not (ltb (clause_permission k i) P) || (outside 1 4 (clause_length k i)
    || (any_below 4 (clause_slot_bad R k i) || (nonzero (zero_byte14 k i) || nonzero (zero_byte15 k i))))

unfoldable pub clauses_bad : ℕ → ℕ → List ℕ → Bool
unfolding any_below
clauses_bad R P k = any_below (record_count clauses k) (clause_bad R P k)

-- how many values a context's parameter has: minute 0 to 1439, day 0 to 6, zone 0 to 255
abbrev pub ranges : List ℕ
ranges = 1440 ∷ 7 ∷ 256 ∷ []

abbrev pub range_of : ℕ → ℕ
range_of p = get_or ranges p 0

-- a context condition: parameter 0 to 2, operator 0 to 5, the value in its parameter's range
unfoldable pub context_condition_bad : ℕ → ℕ → ℕ → Bool
context_condition_bad p operator value = ltb 2 p || (ltb 5 operator || not (ltb value (range_of p)))

-- condition j of C record i: one of the n, which keeps the rules, or one beyond n, which is zero bytes
unfoldable pub context_slot_bad : List ℕ → ℕ → ℕ → Bool
context_slot_bad c i j =
    cond (ltb j (context_length c i))
    (context_condition_bad (context_parameter c i j) (context_operator c i j) (context_value c i j))
    (nonzero (context_parameter c i j) || (nonzero (context_operator c i j) || nonzero (context_value c i j)))

-- refusal 7: a C record breaks its rules
unfoldable pub context_bad : List ℕ → ℕ → Bool
unfolding any_below
context_bad c i =
    ltb 15 (context_number c i) || (outside 1 3 (context_length c i)
    || (any_below 3 (context_slot_bad c i) || (nonzero (zero_byte14 c i) || nonzero (zero_byte15 c i))))

unfoldable pub contexts_bad : List ℕ → Bool
unfolding any_below
contexts_bad c = any_below (record_count contexts c) (context_bad c)

-- refusal 8: an A record breaks its rules, or its role or permission isn't there
unfoldable pub policy_bad : ℕ → ℕ → List ℕ → ℕ → Bool
policy_bad R P a i =
    not (ltb (policy_role a i) R) || (not (ltb (policy_permission a i) P) || (outside 1 5 (policy_weight a i)
    || (ltb 1 (policy_type a i) || (ltb 15 (policy_context a i) && not (eqb (policy_context a i) 255)))))

unfoldable pub policies_bad : ℕ → ℕ → List ℕ → Bool
unfolding any_below
policies_bad R P a = any_below (record_count policies a) (policy_bad R P a)

-- refusal 9: an X record breaks its rules, or its b isn't a role or permission there
unfoldable pub exclusion_bad : ℕ → ℕ → List ℕ → ℕ → Bool
exclusion_bad R P x i =
    ltb 1 (exclusion_kind x i) || (not (ltb (exclusion_first x i) (exclusion_second x i))
    || not (ltb (exclusion_second x i) (cond (eqb (exclusion_kind x i) 0) R P)))

unfoldable pub exclusions_bad : ℕ → ℕ → List ℕ → Bool
unfolding any_below
exclusions_bad R P x = any_below (record_count exclusions x) (exclusion_bad R P x)

-- the first of refusals 4 to 9 that applies, or 0
unfoldable pub records_refusal : List ℕ → ℕ
records_refusal b =
    cond (hierarchy_bad (role_count b) (table_of b hierarchy)) 4
    (cond (users_bad (role_count b) (table_of b users)) 5
    (cond (clauses_bad (role_count b) (permission_count b) (table_of b clauses)) 6
    (cond (contexts_bad (table_of b contexts)) 7
    (cond (policies_bad (role_count b) (permission_count b) (table_of b policies)) 8
    (cond (exclusions_bad (role_count b) (permission_count b) (table_of b exclusions)) 9 0)))))

-- the first of refusals 1 to 9 that applies, or 0
unfoldable pub refusal_of : List ℕ → ℕ
refusal_of b = cond (length_bad b) 1 (cond (letters_bad b) 2 (cond (trailer_bad b) 3 (records_refusal b)))
