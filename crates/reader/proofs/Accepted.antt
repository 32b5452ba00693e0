-- What the check's answer says: the chain of 1 to 9 in its two halves, and, of an accepted base, the range of each
-- field.
use Prim.Native.Nat.{ℕ, ◌+◌, ◌*◌, ◌^◌, ◌<◌, ◌≤◌}
use mathlib.Core.Bool.{Bool, true, false, ◌&&◌, ◌||◌, not, cond}
use mathlib.Core.Path.{◌≡◌, refl, ap, sym, ◌∙◌}
use mathlib.Core.List.{List}
use native.Mathlib.Omega.{arith}
use native.Mathlib.Nat.{suc-ne-zero, mul-suc, mul_comm, div-mul-le_self, mul-le-mul_left, le_trans, lt_of_lt_of_le}
use mathlib.Core.Logic.{◌⊎◌, inl, inr, ⊎_elim}
use borrow.Author.Tests.{ltb-true, ltb-false, eqb-true, not-false, lt-ltb}
use lib.Dec.{ltb, eqb}
use lib.ListN.{length}
use Rattle.folds.proofs.Bools.{or_left, or_right, none_met, clash, met_or_not}
use Rattle.folds.proofs.Tests.{any_at, any_each}
use Rattle.reader.specs.Fields.{senior, junior, parameter, first_day, last_day, clause_permission, clause_length}
use Rattle.reader.specs.Fields.{condition_attribute, condition_operator, condition_value}
use Rattle.reader.specs.Fields.{context_number, context_length, context_parameter, context_operator, context_value}
use Rattle.reader.specs.Fields.{policy_role, policy_permission, policy_weight, policy_type, policy_context}
use Rattle.reader.specs.Fields.{exclusion_kind, exclusion_first, exclusion_second}
use Rattle.reader.specs.Codes.{parameter_ok, code_product, held_by, holds}
use Rattle.folds.specs.Sets.{in_set}
use Rattle.folds.proofs.Sets.{in_set_high}
use Rattle.reader.proofs.Frame.{roles_range, permissions_le, record_count_lem, count_limit}
use Rattle.reader.proofs.Parameter.{roles_held}
use Rattle.reader.specs.Tables.{width, limit, hierarchy, users, clauses, contexts, policies, exclusions}
use Rattle.reader.specs.Tables.{role_count, permission_count, table_of, record_count}
use Rattle.reader.specs.Tables.{length_bad, letters_bad, trailer_bad, frame_refusal}
use Rattle.reader.specs.Rules.{range_of, outside, hierarchy_record_bad, user_bad}
use Rattle.reader.specs.Rules.{condition_bad, clause_slot_bad, clause_bad, context_condition_bad, context_slot_bad}
use Rattle.reader.specs.Rules.{context_bad, policy_bad, exclusion_bad}
use Rattle.reader.specs.Rules.{hierarchy_bad, users_bad, clauses_bad, contexts_bad, policies_bad, exclusions_bad}
use Rattle.reader.specs.Rules.{records_refusal, refusal_of}

-- the chain of refusals 1 to 3, then the rest
abbrev frame_or : Bool → Bool → Bool → ℕ → ℕ
frame_or x y z rest = cond x 1 (cond y 2 (cond z 3 rest))

-- refusals 1 to 3 come first
pub refused_frame : (b : List ℕ) → (frame_refusal b ≡ 0 → ⊥) → refusal_of b ≡ frame_refusal b
unfolding refusal_of frame_refusal
refused_frame b = by (length_bad b) (letters_bad b) (trailer_bad b) (records_refusal b)
  where
    by : (x y z : Bool) (r : ℕ) → (frame_or x y z 0 ≡ 0 → ⊥) → frame_or x y z r ≡ frame_or x y z 0
    by true y z r h = refl
    by false true z r h = refl
    by false false true r h = refl
    by false false false r h = absurd (h refl)

-- then those of the records
pub refused_records : (b : List ℕ) → frame_refusal b ≡ 0 → refusal_of b ≡ records_refusal b
unfolding refusal_of frame_refusal
refused_records b = by (length_bad b) (letters_bad b) (trailer_bad b) (records_refusal b)
  where
    by : (x y z : Bool) (r : ℕ) → frame_or x y z 0 ≡ 0 → frame_or x y z r ≡ r
    by true y z r h = absurd (suc-ne-zero 0 h)
    by false true z r h = absurd (suc-ne-zero 1 h)
    by false false true r h = absurd (suc-ne-zero 2 h)
    by false false false r h = refl

-- a base that the check answers with 0, under the name that it is handed on by
pub accepted_as : {a b : List ℕ} → a ≡ b → 0 ≡ refusal_of b → refusal_of a ≡ 0
accepted_as same is = ap refusal_of same ∙ sym is

-- a base that passes the check has its tables
pub accepted_frame : (b : List ℕ) → refusal_of b ≡ 0 → frame_refusal b ≡ 0
unfolding refusal_of frame_refusal
accepted_frame b = by (length_bad b) (letters_bad b) (trailer_bad b) (records_refusal b)
  where
    by : (x y z : Bool) (r : ℕ) → frame_or x y z r ≡ 0 → frame_or x y z 0 ≡ 0
    by true y z r h = h
    by false true z r h = h
    by false false true r h = h
    by false false false r h = refl

-- record i of table t lies in the table's bytes
pub record_within : (t : ℕ) (r : List ℕ) (i : ℕ) → i < record_count t r → width t * i + width t ≤ length r
record_within t r i h =
    let all : width t * record_count t r ≤ length r = rw mul_comm (div-mul-le_self (length r) (width t)) in
    rw (← mul-suc (width t) i) (le_trans (mul-le-mul_left (width t) h) all)

-- what the rules say of the records of an accepted base
pub record HierarchyFine (R : ℕ) (h : List ℕ) (i : ℕ) : Type 0 where
  pub down : senior h i < junior h i
  pub role : junior h i < R

pub record UserFine (R : ℕ) (u : List ℕ) (i : ℕ) : Type 0 where
  pub product : parameter_ok R (parameter u i) ≡ true
  pub days : first_day u i ≤ last_day u i

-- attributes 0 to 2 with operators 0 to 5, or attribute 3 with operator 6 and a set of roles below R
pub record ConditionFine (R attribute operator value : ℕ) : Type 0 where
  pub attribute_le : attribute ≤ 3
  pub number : attribute < 3 → operator ≤ 5
  pub set : attribute ≡ 3 → (operator ≡ 6) × (value < 2 ^ R)

pub record ClauseFine (R P : ℕ) (k : List ℕ) (i : ℕ) : Type 0 where
  pub permission : clause_permission k i < P
  pub some : 1 ≤ clause_length k i
  pub at_most : clause_length k i ≤ 4
  pub condition : (j : ℕ) → j < clause_length k i →
      ConditionFine R (condition_attribute k i j) (condition_operator k i j) (condition_value k i j)

pub record ContextConditionFine (p operator value : ℕ) : Type 0 where
  pub parameter_le : p ≤ 2
  pub operator_le : operator ≤ 5
  pub range : value < range_of p

pub record ContextFine (c : List ℕ) (i : ℕ) : Type 0 where
  pub number : context_number c i ≤ 15
  pub some : 1 ≤ context_length c i
  pub at_most : context_length c i ≤ 3
  pub condition : (j : ℕ) → j < context_length c i →
      ContextConditionFine (context_parameter c i j) (context_operator c i j) (context_value c i j)

pub record PolicyFine (R P : ℕ) (a : List ℕ) (i : ℕ) : Type 0 where
  pub role : policy_role a i < R
  pub permission : policy_permission a i < P
  pub weight_pos : 1 ≤ policy_weight a i
  pub weight_le : policy_weight a i ≤ 5
  pub type_le : policy_type a i ≤ 1
  pub context : (policy_context a i ≤ 15) ⊎ (policy_context a i ≡ 255)

pub record ExclusionFine (R P : ℕ) (x : List ℕ) (i : ℕ) : Type 0 where
  pub kind_le : exclusion_kind x i ≤ 1
  pub rising : exclusion_first x i < exclusion_second x i
  pub there : exclusion_second x i < cond (eqb (exclusion_kind x i) 0) R P

-- a context number is 0 to 15, or 255 for none
number_or_none : (x : ℕ) → (ltb 15 x && not (eqb x 255)) ≡ false → (x ≤ 15) ⊎ (x ≡ 255)
number_or_none x h = by (ltb 15 x) (eqb x 255) refl refl h
  where
    by : (s t : Bool) → ltb 15 x ≡ s → eqb x 255 ≡ t → (s && not t) ≡ false → (x ≤ 15) ⊎ (x ≡ 255)
    by true true e f k = inr (eqb-true _ _ f)
    by true false e f k = clash true refl k
    by false t e f k = inl (ltb-false _ _ e)

-- a test `not (x < y)` that is false
below : (x y : ℕ) → not (ltb x y) ≡ false → x < y
below x y h = ltb-true x y (not-false _ h)

condition_fine : (R a o v : ℕ) → condition_bad R a o v ≡ false → ConditionFine R a o v
unfolding condition_bad
condition_fine R a o v = by (ltb a 3) refl
  where
    by : (t : Bool) → ltb a 3 ≡ t →
        cond t (ltb 5 o) (not (eqb a 3) || (not (eqb o 6) || not (ltb v (2 ^ R)))) ≡ false → ConditionFine R a o v
    by true e h =
        let l : a < 3 = ltb-true _ _ e in
        record { attribute_le = omega arith; number = λ k. ltb-false _ _ h; set = λ q. absurd (omega arith) }
    by false e h =
        let l : 3 ≤ a = ltb-false _ _ e in
        let q : a ≡ 3 = eqb-true _ _ (not-false _ (or_left _ _ h)) in
        let k = or_right (not (eqb a 3)) _ h in
        record {
          attribute_le = omega arith;
          number = λ m. absurd (omega arith);
          set = λ m. (eqb-true _ _ (not-false _ (or_left _ _ k)), below v (2 ^ R) (or_right (not (eqb o 6)) _ k));
        }

context_condition_fine : (p o v : ℕ) → context_condition_bad p o v ≡ false → ContextConditionFine p o v
unfolding context_condition_bad
context_condition_fine p o v h =
    let k = or_right (ltb 2 p) _ h in
    record {
      parameter_le = ltb-false _ _ (or_left _ _ h);
      operator_le = ltb-false _ _ (or_left _ _ k);
      range = below _ _ (or_right (ltb 5 o) _ k);
    }

module _ (R P : ℕ) (r : List ℕ) (i : ℕ) where
  pub hierarchy_fine : hierarchy_bad R r ≡ false → i < record_count hierarchy r → HierarchyFine R r i
  unfolding hierarchy_bad
  hierarchy_fine h l =
      let k = any_at (hierarchy_record_bad R r) _ h i l in
      record { down = below _ _ (or_left _ _ k); role = below _ _ (or_right (not (ltb (senior r i) (junior r i))) _ k) }

  pub user_fine : users_bad R r ≡ false → i < record_count users r → UserFine R r i
  unfolding users_bad
  user_fine h l =
      let k = any_at (user_bad R r) _ h i l in
      record {
        product = not-false _ (or_left _ _ k);
        days = ltb-false _ _ (or_right (not (parameter_ok R (parameter r i))) _ k);
      }

  pub clause_fine : clauses_bad R P r ≡ false → i < record_count clauses r → ClauseFine R P r i
  unfolding clauses_bad clause_bad clause_slot_bad
  clause_fine h l =
      let whole = any_at (clause_bad R P r) _ h i l in
      let past_permission = or_right (not (ltb (clause_permission r i) P)) _ whole in
      let count = or_left _ _ past_permission in
      let slots = or_left _ _ (or_right (outside 1 4 (clause_length r i)) _ past_permission) in
      let most : clause_length r i ≤ 4 = ltb-false _ _ (or_right (ltb (clause_length r i) 1) _ count) in
      record {
        permission = below _ _ (or_left _ _ whole);
        some = ltb-false _ _ (or_left _ _ count);
        at_most = most;
        condition = λ j m. condition_fine _ _ _ _
            (rw (lt-ltb _ _ m) at (any_at (clause_slot_bad R r i) 4 slots j (omega arith)));
      }

  pub context_fine : contexts_bad r ≡ false → i < record_count contexts r → ContextFine r i
  unfolding contexts_bad context_bad context_slot_bad
  context_fine h l =
      let whole = any_at (context_bad r) _ h i l in
      let past_context = or_right (ltb 15 (context_number r i)) _ whole in
      let count = or_left _ _ past_context in
      let slots = or_left _ _ (or_right (outside 1 3 (context_length r i)) _ past_context) in
      let most : context_length r i ≤ 3 = ltb-false _ _ (or_right (ltb (context_length r i) 1) _ count) in
      record {
        number = ltb-false _ _ (or_left _ _ whole);
        some = ltb-false _ _ (or_left _ _ count);
        at_most = most;
        condition = λ j m. context_condition_fine _ _ _
            (rw (lt-ltb _ _ m) at (any_at (context_slot_bad r i) 3 slots j (omega arith)));
      }

  pub policy_fine : policies_bad R P r ≡ false → i < record_count policies r → PolicyFine R P r i
  unfolding policies_bad policy_bad
  policy_fine h l =
      let whole = any_at (policy_bad R P r) _ h i l in
      let past_role = or_right (not (ltb (policy_role r i) R)) _ whole in
      let past_permission = or_right (not (ltb (policy_permission r i) P)) _ past_role in
      let weight = or_left _ _ past_permission in
      let past_weight = or_right (outside 1 5 (policy_weight r i)) _ past_permission in
      record {
        role = below _ _ (or_left _ _ whole);
        permission = below _ _ (or_left _ _ past_role);
        weight_pos = ltb-false _ _ (or_left _ _ weight);
        weight_le = ltb-false _ _ (or_right (ltb (policy_weight r i) 1) _ weight);
        type_le = ltb-false _ _ (or_left _ _ past_weight);
        context = number_or_none (policy_context r i) (or_right (ltb 1 (policy_type r i)) _ past_weight);
      }

  pub exclusion_fine : exclusions_bad R P r ≡ false → i < record_count exclusions r → ExclusionFine R P r i
  unfolding exclusions_bad exclusion_bad
  exclusion_fine h l =
      let whole = any_at (exclusion_bad R P r) _ h i l in
      let past_kind = or_right (ltb 1 (exclusion_kind r i)) _ whole in
      record {
        kind_le = ltb-false _ _ (or_left _ _ whole);
        rising = below _ _ (or_left _ _ past_kind);
        there = below _ _ (or_right (not (ltb (exclusion_first r i) (exclusion_second r i))) _ past_kind);
      }

-- a base that passes the check: its tables are there, and none of their records is bad
pub record Accepted (b : List ℕ) : Type 0 where
  pub frame : frame_refusal b ≡ 0
  pub hierarchy : hierarchy_bad (role_count b) (table_of b 0) ≡ false
  pub users : users_bad (role_count b) (table_of b 1) ≡ false
  pub clauses : clauses_bad (role_count b) (permission_count b) (table_of b 3) ≡ false
  pub contexts : contexts_bad (table_of b 4) ≡ false
  pub policies : policies_bad (role_count b) (permission_count b) (table_of b 5) ≡ false
  pub exclusions : exclusions_bad (role_count b) (permission_count b) (table_of b 6) ≡ false

pub accepted : (b : List ℕ) → refusal_of b ≡ 0 → Accepted b
unfolding records_refusal
accepted b ok =
    let f = accepted_frame b ok in
    let (h, past4) = none_met _ 3 (sym (refused_records b f) ∙ ok) in
    let (u, past5) = none_met _ 4 past4 in
    let (k, past6) = none_met _ 5 past5 in
    let (c, past7) = none_met _ 6 past6 in
    let (a, past8) = none_met _ 7 past7 in
    let (x, _) = none_met _ 8 past8 in
    record { frame = f; hierarchy = h; users = u; clauses = k; contexts = c; policies = a; exclusions = x }

-- the law of membership: each user of an accepted base holds exactly the roles of a set below R, and the parameter is
-- the product of their codes
pub holds_set : (b : List ℕ) → refusal_of b ≡ 0 → (u : ℕ) → u < record_count 1 (table_of b 1) →
    (s : ℕ) × (s < 2 ^ role_count b) × (parameter (table_of b 1) u ≡ code_product (role_count b) s)
    × ((r : ℕ) → holds b u r ≡ in_set s r)
unfolding held_by
holds_set b ok u l =
    let A = accepted b ok in
    let R = role_count b in
    let fine = (user_fine R 0 (table_of b 1) u A.users l).product in
    let (s, small, e, m) = roles_held R _ (roles_range b A.frame).1 fine in (
      s,
      small,
      e,
      λ r. rw (lt-ltb _ _ l)
          (⊎_elim
          (λ k. rw k (m r (ltb-true _ _ k)))
          (λ k. rw k (sym (in_set_high R s r small (ltb-false _ _ k))))
          (met_or_not (ltb r R))),
    )

-- a table A that passed the check passes it with more roles and permissions
pub policies_wider : (R P S Q : ℕ) (a : List ℕ) → R ≤ S → P ≤ Q → policies_bad R P a ≡ false →
    policies_bad S Q a ≡ false
unfolding policies_bad policy_bad
policies_wider R P S Q a r p fine =
    any_each (policy_bad S Q a) (record_count policies a)
    (λ i m. let f = policy_fine R P a i fine m in
    rw (lt-ltb _ _ (lt_of_lt_of_le f.role r), lt-ltb _ _ (lt_of_lt_of_le f.permission p))
    (or_right (not (ltb (policy_permission a i) P)) _
    (or_right (not (ltb (policy_role a i) R)) _ (any_at (policy_bad R P a) _ fine i m))))

module _ (b : List ℕ) (ok : refusal_of b ≡ 0) where
  -- so that of an accepted base passes it with 8 roles and 16 permissions
  pub policies_small : policies_bad 8 16 (table_of b policies) ≡ false
  policies_small =
      let f = accepted b ok in
      policies_wider _ _ 8 16 (table_of b policies) (roles_range b f.frame).1 (permissions_le b f.frame) f.policies

  -- its tables have at most their limits of records
  pub records_le : (t : ℕ) → t < 7 → record_count t (table_of b t) ≤ limit t
  records_le t l = let frame = (accepted b ok).frame in rw (record_count_lem b frame t l) (count_limit b frame t l)
