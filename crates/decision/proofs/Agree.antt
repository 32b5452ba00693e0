-- The decision reads fields only: bases whose fields agree, as far as the decision reads them, decide alike.
use Prim.Native.Nat.{ℕ, ◌<◌}
use mathlib.Core.Bool.{Bool, false, not, cond}
use mathlib.Core.Path.{◌≡◌, ◌∙◌}
use mathlib.Core.Logic.{⊎_elim}
use mathlib.Core.List.{List}
use borrow.Author.Tests.{ltb-true, eqb-true}
use lib.Dec.{ltb, eqb}
use Rattle.folds.proofs.Bools.{met_or_not}
use Rattle.folds.proofs.Tests.{all_same, any_same}
use Rattle.folds.proofs.Numbers.{sum_same}
use Rattle.reader.specs.Tables.{users, clauses, role_count, user_count, table_of, record_count}
use Rattle.reader.specs.Fields.{parameter, first_day, last_day, clause_permission, clause_length}
use Rattle.reader.specs.Fields.{condition_attribute, condition_operator, condition_value}
use Rattle.reader.specs.Codes.{held_by, holds}
use Rattle.weights.specs.declared.Context.{Context}
use Rattle.weights.specs.Weights.{weight}
use Rattle.weights.specs.Acting.{acts_through, may_act}
use Rattle.weights.proofs.Agree.{SameHierarchy, SameWeighing, same_senior, same_weight}
use Rattle.decision.specs.Conditions.{condition_holds, clause_holds, clause_of_holds, permission_holds}
use Rattle.decision.specs.Groups.{entry_count, entry_user, sum_of, some_unknown, some_ineligible, some_out_of_date}
use Rattle.decision.specs.Groups.{some_weightless, members_refusal, weighed_refusal, group_refusal}
use Rattle.decision.specs.Decision.{eligible, out_of_date, group_decision}
use Rattle.decision.proofs.Granting.{user_known, members_of_lem}

-- K records that agree: count, permission, length, and each condition that is used
pub record SameClauses (k l : List ℕ) : Type 0 where
  pub count : record_count clauses k ≡ record_count clauses l
  pub permission : (i : ℕ) → i < record_count clauses k → clause_permission k i ≡ clause_permission l i
  pub length : (i : ℕ) → i < record_count clauses k → clause_length k i ≡ clause_length l i
  pub attribute : (i j : ℕ) → i < record_count clauses k → j < clause_length k i →
      condition_attribute k i j ≡ condition_attribute l i j
  pub operator : (i j : ℕ) → i < record_count clauses k → j < clause_length k i →
      condition_operator k i j ≡ condition_operator l i j
  pub value : (i j : ℕ) → i < record_count clauses k → j < clause_length k i →
      condition_value k i j ≡ condition_value l i j

-- U records that agree: count and parameters
pub record SameUsers (us vs : List ℕ) : Type 0 where
  pub count : record_count users us ≡ record_count users vs
  pub parameters : (u : ℕ) → u < record_count users us → parameter us u ≡ parameter vs u

-- and whose days agree
pub record SameDays (us vs : List ℕ) : Type 0 where
  pub first : (u : ℕ) → u < record_count users us → first_day us u ≡ first_day vs u
  pub last : (u : ℕ) → u < record_count users us → last_day us u ≡ last_day vs u

-- bases whose fields agree, as far as the decision on a group reads them
pub record SameDeciding (b d : List ℕ) : Type 0 where
  pub weighing : SameWeighing b d
  pub users : SameUsers (table_of b 1) (table_of d 1)
  pub days : SameDays (table_of b 1) (table_of d 1)
  pub clauses : SameClauses (table_of b 3) (table_of d 3)

module _ (k l : List ℕ) (e : SameClauses k l) where
  -- a clause holds by both tables or by neither
  same_clause : (number sum set i : ℕ) → i < record_count clauses k →
      clause_holds k number sum set i ≡ clause_holds l number sum set i
  unfolding clause_holds condition_holds
  same_clause number sum set i m =
      rw (← e.length i m)
      (all_same _ _ (clause_length k i)
      (λ j n. rw (e.attribute i j m n, e.operator i j m n, e.value i j m n)))

  -- a permission's condition holds by both tables or by neither
  pub same_condition : (p number sum set : ℕ) →
      permission_holds k p number sum set ≡ permission_holds l p number sum set
  unfolding permission_holds
  same_condition p number sum set =
      rw (
        ← e.count,
        any_same (clause_of_holds k p number sum set) (clause_of_holds l p number sum set) (record_count clauses k)
            (λ i m. rw (e.permission i m, same_clause number sum set i m)),
      )

-- the same users hold the same roles
pub same_holds : (R : ℕ) (us vs : List ℕ) → SameUsers us vs → (u r : ℕ) → held_by R us u r ≡ held_by R vs u r
unfolding held_by
same_holds R us vs e u r =
    rw (← e.count)
    (⊎_elim (λ t. rw (t, e.parameters u (ltb-true _ _ t))) (λ t. rw t) (met_or_not (ltb u (record_count users us))))

-- and, by the same hierarchy, may act in the same roles
pub same_acting : (b d : List ℕ) → role_count b ≡ role_count d → SameHierarchy (table_of b 0) (table_of d 0) →
    SameUsers (table_of b 1) (table_of d 1) → (u r : ℕ) → may_act b u r ≡ may_act d u r
unfolding may_act
same_acting b d roles hierarchy users u r =
    let through =
    any_same (acts_through b u r) (acts_through d u r) (role_count b)
    (λ s l. rw (held s, same_senior _ _ hierarchy s r)) in
    rw (held r, through, users.count, roles)
  where
    held : (s : ℕ) → holds b u s ≡ holds d u s
    held s = rw roles (same_holds _ _ _ users u s)

-- what follows 12 to 15 counts only where they give 0
same_left : (m : ℕ) {x y : ℕ} → (m ≡ 0 → x ≡ y) → cond (not (eqb m 0)) m x ≡ cond (not (eqb m 0)) m y
same_left m h = ⊎_elim (λ t. rw (h (eqb-true m 0 t))) (λ t. rw t) (met_or_not (eqb m 0))

module _ (U W R S : ℕ) (may can : ℕ → ℕ → Bool) (out gone : ℕ → Bool) (weigh other : ℕ → ℕ)
    (condition rule : ℕ → ℕ → ℕ → Bool) (c : U ≡ W) (q : R ≡ S) (m : (u r : ℕ) → may u r ≡ can u r)
    (o : (u : ℕ) → u < U → out u ≡ gone u) (w : (r : ℕ) → weigh r ≡ other r)
    (h : (number sum set : ℕ) → condition number sum set ≡ rule number sum set) (g : List ℕ) where
  -- an entry is ineligible by both or by neither
  same_ineligible : some_ineligible may g ≡ some_ineligible can g
  unfolding some_ineligible
  same_ineligible = any_same _ _ (entry_count g) (λ i n. rw m)

  -- so the same members stand there
  same_members : members_refusal U R may g ≡ members_refusal W S can g
  unfolding members_refusal
  same_members = rw (c, q, same_ineligible)

  -- a user that is there is out of date by both or by neither
  same_out_of_date : some_unknown U R g ≡ false → some_out_of_date out g ≡ some_out_of_date gone g
  unfolding some_out_of_date
  same_out_of_date known = any_same _ _ (entry_count g) (λ i n. o (entry_user g i) (user_known U R g known i n))

  -- a role is weightless by both or by neither
  same_weightless : some_weightless weigh g ≡ some_weightless other g
  unfolding some_weightless
  same_weightless = any_same _ _ (entry_count g) (λ i n. rw w)

  -- the sums are equal
  same_sum : sum_of weigh g ≡ sum_of other g
  unfolding sum_of
  same_sum = sum_same _ _ (entry_count g) (λ i n. w _)

  left_same : members_refusal U R may g ≡ 0 →
      cond (some_out_of_date out g) 24 (weighed_refusal weigh condition g) ≡
      cond (some_out_of_date gone g) 24 (weighed_refusal other rule g)
  left_same none = rw (same_out_of_date (members_of_lem U R may g none).known, same_weightless, same_sum, h)

  -- what agrees at each point gives the group the same refusal of 12 to 15, 24, 16 and 17, or 0
  pub same_refusal : group_refusal U R may out weigh condition g ≡ group_refusal W S can gone other rule g
  unfolding group_refusal
  same_refusal =
      same_left (members_refusal U R may g) left_same ∙ rw same_members

-- bases that agree have the same users out of date
same_dates : (b d : List ℕ) → SameDeciding b d → (at : Context) (u : ℕ) → u < user_count b →
    out_of_date b at u ≡ out_of_date d at u
same_dates b d e at u there = rw (e.days.first u there, e.days.last u there)

-- bases that agree decide alike on every group
pub same_group_decision : (b d : List ℕ) → SameDeciding b d → (rules : List ℕ) (at : Context) (p : ℕ) (g : List ℕ) →
    group_decision rules b at p g ≡ group_decision rules d at p g
unfolding group_decision
same_group_decision b d e rules at p g =
    same_refusal _ _ _ _ (eligible b at p) (eligible d at p) (out_of_date b at) (out_of_date d at)
    (λ r. weight rules b at r p) (λ r. weight rules d at r p) _ _ e.users.count e.weighing.roles
    (same_acting b d e.weighing.roles e.weighing.hierarchy e.users) (same_dates b d e at)
    (λ r. same_weight b d e.weighing rules at r p) (same_condition _ _ e.clauses p) g
