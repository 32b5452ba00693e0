-- The law of granting, and what the decision's steps know of a group.
use Prim.Native.Nat.{ℕ, ◌*◌, ◌%◌, ◌<◌, ◌≤◌}
use mathlib.Core.Bool.{Bool, true, false, not, cond}
use mathlib.Core.Path.{◌≡◌, refl, ap, ◌∙◌}
use mathlib.Core.Logic.{◌↔◌}
use mathlib.Core.List.{List}
use native.Mathlib.Omega.{arith}
use native.Mathlib.Nat.{suc-ne-zero, lt_of_lt_of_le, pos_of_ne-zero}
use borrow.Author.Tests.{ltb-true, ltb-false, eqb-true, eqb-false, eq-eqb, ne_eqb, lt-ltb, le-ltb, not-false}
use lib.Dec.{ltb, eqb}
use lib.ListN.{length, get_or}
use Rattle.folds.specs.Below.{count_below}
use Rattle.folds.proofs.Bools.{or_left, or_right, or_neither, none_met, none_refused}
use Rattle.folds.proofs.Tests.{any_at, any_each, any_same}
use Rattle.folds.proofs.Numbers.{sum_same, sum_le, count_same}
use Rattle.folds.specs.Sets.{in_set}
use Rattle.folds.proofs.Sets.{in_set_lem}
use Rattle.reader.specs.Fields.{first_day, last_day}
use Rattle.reader.specs.Tables.{users, clauses, role_count, permission_count, table_of, user_count}
use Rattle.reader.specs.Rules.{refusal_of}
use Rattle.weights.specs.declared.Context.{Context}
use Rattle.weights.specs.Contexts.{out_of_range}
use Rattle.weights.specs.Weights.{weight}
use Rattle.weights.specs.Setting.{AreWeights}
use Rattle.decision.specs.Groups.{entry_count, entry_user, entry_role, sum_of, acted_in, roles_of}
use Rattle.decision.specs.Groups.{length_refused, unknown_at, some_unknown, stands_before, some_twice, some_ineligible}
use Rattle.decision.specs.Groups.{some_out_of_date, some_weightless, members_refusal, group_refusal}
use Rattle.decision.specs.Decision.{out_of_date, members_of, group_decision, headed, decision_by}
use Rattle.decision.specs.Conditions.{role_num, permission_holds}
use Rattle.decision.specs.Granting.{Granted, GrantedBy}

-- a group that 12 doesn't refuse is short
pub short_enough : (g : List ℕ) → length_refused g ≡ false → length g ≤ 12
unfolding length_refused
short_enough g h = ltb-false _ _ (or_right (not (eqb (length g % 2) 0)) _ (or_right (eqb (length g) 0) _ h))

-- the users and roles of a group that 13 doesn't refuse are there
pub user_known : (U R : ℕ) (g : List ℕ) → some_unknown U R g ≡ false →
    (i : ℕ) → i < entry_count g → entry_user g i < U
unfolding some_unknown
user_known U R g h i l = ltb-true _ _ (not-false _ (or_left _ _ (any_at (unknown_at U R g) _ h i l)))

pub role_known : (U R : ℕ) (g : List ℕ) → some_unknown U R g ≡ false →
    (i : ℕ) → i < entry_count g → entry_role g i < R
unfolding some_unknown
role_known U R g h i l =
    ltb-true _ _ (not-false _ (or_right (not (ltb (entry_user g i) U)) _ (any_at (unknown_at U R g) _ h i l)))

pub role_below : (U R : ℕ) (g : List ℕ) → some_unknown U R g ≡ false → R ≤ 8 →
    (i : ℕ) → i < entry_count g → entry_role g i < 8
role_below U R g h small i l = lt_of_lt_of_le (role_known U R g h i l) small

module _ (rules b : List ℕ) (at : Context) (p : ℕ) (w g : List ℕ) (are : AreWeights rules b at p w)
    (low : (i : ℕ) → i < entry_count g → entry_role g i < 8) where
  -- what the weights handed on say is what the weights say
  pub weightless_same : some_weightless (λ r. get_or w r 0) g ≡ some_weightless (λ r. weight rules b at r p) g
  unfolding some_weightless
  weightless_same = any_same _ _ (entry_count g) (λ i l. ap (λ (x : ℕ). eqb x 0) (are.role (entry_role g i) (low i l)))

  pub sum_weights : sum_of (λ r. get_or w r 0) g ≡ sum_of (λ r. weight rules b at r p) g
  unfolding sum_of
  sum_weights = sum_same _ _ (entry_count g) (λ i l. are.role (entry_role g i) (low i l))

-- what the numbers of users and roles handed on say is what the base says
pub unknown_same : (b g : List ℕ) (U R : ℕ) → U ≡ user_count b → R ≡ role_count b →
    some_unknown U R g ≡ some_unknown (user_count b) (role_count b) g
unknown_same b g U R e f = rw (e, f)

module _ (rules b : List ℕ) (at : Context) (p : ℕ) (g : List ℕ) where
  pub condition_same : (k : List ℕ) (n sum set : ℕ) → k ≡ table_of b clauses → n ≡ entry_count g →
      sum ≡ sum_of (λ r. weight rules b at r p) g → set ≡ roles_of g →
      permission_holds k p n sum set ≡
      permission_holds (table_of b clauses) p (entry_count g) (sum_of (λ r. weight rules b at r p) g) (roles_of g)
  condition_same k n sum set e f h i = rw (e, f, h, i)

-- what is asked of who may act is asked of the base
pub members_same : (g : List ℕ) {a b : List ℕ} {n : ℕ} → a ≡ b → n ≡ members_of a g → n ≡ members_of b g
members_same g same is = is ∙ ap (λ b. members_of b g) same

-- a group that none of refusals 12 to 15 applies to
pub record Members (U R : ℕ) (may : ℕ → ℕ → Bool) (g : List ℕ) : Type 0 where
  pub whole : length_refused g ≡ false
  pub known : some_unknown U R g ≡ false
  pub once : some_twice g ≡ false
  pub acting : some_ineligible may g ≡ false

-- a chain of four refusals before what follows is one chain
pub one_chain : (p q r s : Bool) (left : ℕ) →
    let four = cond {A = ℕ} p 12 (cond q 13 (cond r 14 (cond s 15 0))) in
    cond (not (eqb four 0)) four left ≡ cond p 12 (cond q 13 (cond r 14 (cond s 15 left)))
one_chain true q r s left = refl
one_chain false true r s left = refl
one_chain false false true s left = refl
one_chain false false false true left = refl
one_chain false false false false left = refl

module _ (U R : ℕ) (may : ℕ → ℕ → Bool) (out : ℕ → Bool) (weigh : ℕ → ℕ) (condition : ℕ → ℕ → ℕ → Bool)
    (g : List ℕ) where
  abbrev holds : Bool
  holds = condition (entry_count g) (sum_of weigh g) (roles_of g)

  -- refusals 12 to 15, 24, 16 and 17 are the first that applies of one chain
  pub refusal_chain : group_refusal U R may out weigh condition g ≡
      cond (length_refused g) 12
      (cond (some_unknown U R g) 13
      (cond (some_twice g) 14
      (cond (some_ineligible may g) 15
      (cond (some_out_of_date out g) 24
      (cond (some_weightless weigh g) 16
      (cond holds 0 17))))))
  unfolding group_refusal members_refusal
  refusal_chain =
      one_chain (length_refused g) (some_unknown U R g) (some_twice g) (some_ineligible may g)
      (cond (some_out_of_date out g) 24 (cond (some_weightless weigh g) 16 (cond holds 0 17)))

-- where the chain gives 0, so do 12 to 15, no user is out of date, no role is weightless and the condition holds
none_left : (m : ℕ) (o t c : Bool) → cond (not (eqb m 0)) m (cond o 24 (cond t 16 (cond c 0 17))) ≡ 0 →
    (m ≡ 0) × (o ≡ false) × (t ≡ false) × (c ≡ true)
none_left m o t c h =
    let (members, past15) = none_refused m _ h in
    let (on, past24) = none_met o 23 past15 in
    let (weights, past16) = none_met t 15 past24 in
    (members, on, weights, holds c past16)
  where
    holds : (c : Bool) → cond {A = ℕ} c 0 17 ≡ 0 → c ≡ true
    holds true k = refl
    holds false k = absurd (suc-ne-zero 16 k)

module _ (U R : ℕ) (may : ℕ → ℕ → Bool) (g : List ℕ) where
  pub members_of_lem : members_refusal U R may g ≡ 0 → Members U R may g
  unfolding members_refusal
  members_of_lem h =
      let (whole, past12) = none_met (length_refused g) 11 h in
      let (known, past13) = none_met (some_unknown U R g) 12 past12 in
      let (once, past14) = none_met (some_twice g) 13 past13 in
      record { whole = whole; known = known; once = once; acting = (none_met (some_ineligible may g) 14 past14).0 }

  pub members_pass : Members U R may g → members_refusal U R may g ≡ 0
  unfolding members_refusal
  members_pass d = rw (d.whole, d.known, d.once, d.acting)

-- a group of 1 to 6 whole entries is one that 12 doesn't refuse
pub whole_length : (g : List ℕ) → length g ≡ 2 * entry_count g → 1 ≤ entry_count g → entry_count g ≤ 6 →
    length_refused g ≡ false
unfolding length_refused
whole_length g whole some few =
    rw (
      ne_eqb (length g) 0 (λ q. omega arith),
      eq-eqb (length g % 2) 0 (omega arith),
      le-ltb 12 (length g) (omega arith),
    )

module _ (U R : ℕ) (may : ℕ → ℕ → Bool) (out : ℕ → Bool) (weigh : ℕ → ℕ) (condition : ℕ → ℕ → ℕ → Bool)
    (g : List ℕ) where
  granted_of : group_refusal U R may out weigh condition g ≡ 0 → Granted U R may out weigh condition g
  unfolding group_refusal length_refused some_twice stands_before some_ineligible some_out_of_date some_weightless
  granted_of h =
      let met = holds U R may out weigh condition g in
      let left = none_left (members_refusal U R may g) (some_out_of_date out g) (some_weightless weigh g) met h in
      let w = members_of_lem U R may g left.0 in
      let s = short_enough g w.whole in
      let n : length g ≡ 0 → ⊥ = eqb-false _ _ (or_left _ _ w.whole) in
      let e : length g % 2 ≡ 0 =
      eqb-true _ _ (not-false _ (or_left _ _ (or_right (eqb (length g) 0) _ w.whole))) in
      let m = pos_of_ne-zero n in
      record {
        whole = omega arith;
        some = omega arith;
        few = omega arith;
        user = user_known U R g w.known;
        role = role_known U R g w.known;
        different = λ i j l k.
            eqb-false _ _
            (any_at (λ i. eqb (entry_user g i) (entry_user g j)) j (any_at (stands_before g) _ w.once j k) i l);
        acting = λ i l. not-false _ (any_at (λ i. not (may (entry_user g i) (entry_role g i))) _ w.acting i l);
        days = any_at (λ i. out (entry_user g i)) _ left.1;
        heavy = λ i l. pos_of_ne-zero (eqb-false _ _ (any_at (λ i. eqb (weigh (entry_role g i)) 0) _ left.2 i l));
        holds = left.3;
      }

  granted_members : Granted U R may out weigh condition g → Members U R may g
  unfolding some_unknown some_twice stands_before some_ineligible
  granted_members d = record {
    whole = whole_length g d.whole d.some d.few;
    known = any_each (unknown_at U R g) (entry_count g) (λ i l. rw (lt-ltb _ _ (d.user i l), lt-ltb _ _ (d.role i l)));
    once = any_each (stands_before g) (entry_count g) (λ j k.
        any_each (λ i. eqb (entry_user g i) (entry_user g j)) j (λ i l. ne_eqb _ _ (d.different i j l k)));
    acting = any_each (λ i. not (may (entry_user g i) (entry_role g i))) (entry_count g) (λ i l. rw (d.acting i l));
  }

  none_out_of_date : ((i : ℕ) → i < entry_count g → out (entry_user g i) ≡ false) → some_out_of_date out g ≡ false
  unfolding some_out_of_date
  none_out_of_date on = any_each (λ i. out (entry_user g i)) (entry_count g) on

  none_weightless : ((i : ℕ) → i < entry_count g → 0 < weigh (entry_role g i)) → some_weightless weigh g ≡ false
  unfolding some_weightless
  none_weightless heavy =
      any_each (λ i. eqb (weigh (entry_role g i)) 0) (entry_count g)
      (λ i l. ne_eqb (weigh (entry_role g i)) 0 (λ q. let h = heavy i l in omega arith))

  refused_not : Granted U R may out weigh condition g → group_refusal U R may out weigh condition g ≡ 0
  unfolding group_refusal
  refused_not d =
      rw (
        members_pass U R may g (granted_members d),
        none_out_of_date d.days,
        none_weightless d.heavy,
        d.holds,
      )

  -- the law of granting, for whatever the chain is handed
  pub granting : (group_refusal U R may out weigh condition g ≡ 0) ↔ Granted U R may out weigh condition g
  granting = (granted_of, refused_not)

-- whom the chain grants, it grants where more users are eligible
pub wider_granted : (U R : ℕ) (may can : ℕ → ℕ → Bool) (out : ℕ → Bool) (weigh : ℕ → ℕ)
    (condition : ℕ → ℕ → ℕ → Bool) (g : List ℕ) → ((u r : ℕ) → may u r ≡ true → can u r ≡ true) →
    group_refusal U R may out weigh condition g ≡ 0 → group_refusal U R can out weigh condition g ≡ 0
wider_granted U R may can out weigh condition g wider h =
    let d = (granting U R may out weigh condition g).0 h in
    (granting U R can out weigh condition g).1 (record {
      whole = d.whole;
      some = d.some;
      few = d.few;
      user = d.user;
      role = d.role;
      different = d.different;
      acting = λ i l. wider (entry_user g i) (entry_role g i) (d.acting i l);
      days = d.days;
      heavy = d.heavy;
      holds = d.holds;
    })

-- the law of granting: with an accepted base, a permission that is there and a context in range, for every list
pub decision_granting : (rules b : List ℕ) (at : Context) (p : ℕ) (g : List ℕ) →
    refusal_of b ≡ 0 → p < permission_count b → out_of_range at ≡ false →
    (decision_by rules b at p g ≡ 0) ↔ GrantedBy rules b at p g
unfolding decision_by group_decision
decision_granting rules b at p g ok there fit = rw (ok, lt-ltb _ _ there, fit) (granting _ _ _ _ _ _ g)

-- where the head and what is left give 0, the base is accepted, the permission there and the context in range
pub head_passed : (b : List ℕ) (at : Context) (p left : ℕ) → headed b at p left ≡ 0 →
    (refusal_of b ≡ 0) × (p < permission_count b) × (out_of_range at ≡ false) × (left ≡ 0)
head_passed b at p left h =
    let (ok, past9) = none_refused (refusal_of b) _ h in
    let (there, past10) = none_met (not (ltb p (permission_count b))) 9 past9 in
    let (in_range, past11) = none_met (out_of_range at) 10 past10 in
    (ok, ltb-true _ _ (not-false _ there), in_range, past11)

-- only an accepted base grants, a permission that is there, in a context in range
pub decision_head : (rules b : List ℕ) (at : Context) (p : ℕ) (g : List ℕ) → decision_by rules b at p g ≡ 0 →
    (refusal_of b ≡ 0) × (p < permission_count b) × (out_of_range at ≡ false)
unfolding decision_by
decision_head rules b at p g h = let k = head_passed b at p (group_decision rules b at p g) h in (k.0, k.1, k.2)

-- a user is in date where the date is from the first to the last day, both included
pub in_date : (b : List ℕ) (at : Context) (u : ℕ) →
    (out_of_date b at u ≡ false) ↔
    ((first_day (table_of b users) u ≤ at.date) × (at.date ≤ last_day (table_of b users) u))
in_date b at u = (
  λ h.
      let first = first_day (table_of b users) u in
      (ltb-false _ _ (or_left _ _ h), ltb-false _ _ (or_right (ltb at.date first) _ h)),
  λ w. or_neither (le-ltb _ _ w.0) (le-ltb _ _ w.1),
)

-- role_num of a group's set is the number of different roles acted in
pub role_num_lem : (g : List ℕ) → role_num (roles_of g) ≡ count_below 8 (acted_in g)
unfolding role_num roles_of
role_num_lem g = count_same (in_set (roles_of g)) (acted_in g) 8 (λ r l. in_set_lem (acted_in g) 8 r l)

-- the sum of a group that 12 doesn't refuse is at most 240
pub sum_at_most : (weigh : ℕ → ℕ) (g : List ℕ) → ((i : ℕ) → i < entry_count g → weigh (entry_role g i) ≤ 40) →
    length_refused g ≡ false → sum_of weigh g ≤ 240
unfolding sum_of
sum_at_most weigh g h e =
    let s = short_enough g e in
    let l : sum_of weigh g ≤ entry_count g * 40 = sum_le (λ i. weigh (entry_role g i)) 40 (entry_count g) h in
    omega arith

-- the law of granting whole: by the rules of any list or none the decider grants exactly these groups, of every list of
-- numbers
pub granted_by : (rules b : List ℕ) (at : Context) (p : ℕ) (g : List ℕ) →
    (decision_by rules b at p g ≡ 0) ↔
    ((refusal_of b ≡ 0) × (p < permission_count b) × (out_of_range at ≡ false) × GrantedBy rules b at p g)
granted_by rules b at p g = (
  λ h.
      let (ok, there, in_range) = decision_head rules b at p g h in
      (ok, there, in_range, (decision_granting rules b at p g ok there in_range).0 h),
  λ w. (decision_granting rules b at p g w.0 w.1 w.2).1 w.3,
)
