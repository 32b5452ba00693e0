-- A clause holds exactly where its conditions on each attribute are met apart.
use Prim.Native.Nat.{ℕ, zero, suc, ◌^◌, ◌<◌, ◌≤◌}
use mathlib.Core.Bool.{Bool, true, false, ◌&&◌, ◌||◌, not, and-true, or-true}
use mathlib.Core.Path.{◌≡◌, refl, ap, ap₂, ◌∙◌}
use mathlib.Core.Logic.{⊎_elim}
use mathlib.Core.List.{List}
use native.Mathlib.Nat.{lt_of_lt_of_le}
use native.Mathlib.Omega.{arith}
use borrow.Author.Tests.{ltb-true, ltb-false}
use lib.Dec.{ltb}
use lib.Pow.{pow_mono}
use Rattle.folds.specs.Below.{all_below}
use Rattle.folds.specs.Sets.{in_set, contains}
use Rattle.folds.proofs.Bools.{met_or_not, same_test, and_left, and_right, and_both}
use Rattle.folds.proofs.Tests.{all_each, all_at, all_same}
use Rattle.folds.proofs.Sets.{in_set_high}
use Rattle.reader.specs.Tables.{clauses, record_count}
use Rattle.reader.specs.Fields.{clause_length, condition_attribute, condition_operator, condition_value}
use Rattle.reader.proofs.Accepted.{ConditionFine}
use Rattle.weights.specs.Operators.{meets}
use Rattle.decision.specs.Conditions.{role_num, attribute, condition_holds, clause_holds}
use Rattle.masks.specs.Clauses.{Checked, stands_to, lacks, met_at, met_below, met}
use Rattle.masks.proofs.Conditions.{slot, off, on, on_roles}

module _ (p q : ℕ → Bool) where
  -- two tests of all numbers below n
  all_both : (n : ℕ) → all_below n (λ j. p j && q j) ≡ (all_below n p && all_below n q)
  all_both n = same_test (all_below n (λ j. p j && q j)) (all_below n p && all_below n q)
      (λ h. let at = all_at (λ j. p j && q j) n h in
      and_both (all_each p n (λ j l. and_left (p j) (q j) (at j l)))
      (all_each q n (λ j l. and_right (p j) (q j) (at j l))))
      (λ h. all_each (λ j. p j && q j) n (λ j l. and_both
      (all_at p n (and_left (all_below n p) (all_below n q) h) j l)
      (all_at q n (and_right (all_below n p) (all_below n q) h) j l)))

-- one test or another that n tests make up
all_or : (c : Bool) (p : ℕ → Bool) (n : ℕ) → all_below n (λ j. c || p j) ≡ (c || all_below n p)
all_or true p n = all_each (λ j. true) n (λ j l. refl)
all_or false p n = refl

-- of numbers below n and below m, either way round
all_swap : (f : ℕ → ℕ → Bool) (n m : ℕ)
    → all_below n (λ j. all_below m (f j)) ≡ all_below m (λ r. all_below n (λ j. f j r))
all_swap f n m = same_test (all_below n (λ j. all_below m (f j))) (all_below m (λ r. all_below n (λ j. f j r)))
    (λ h. all_each (λ r. all_below n (λ j. f j r)) m (λ r k. all_each (λ j. f j r) n
    (λ j l. all_at (f j) m (all_at (λ j. all_below m (f j)) n h j l) r k)))
    (λ h. all_each (λ j. all_below m (f j)) n (λ j l. all_each (f j) m
    (λ r k. all_at (λ j. f j r) n (all_at (λ r. all_below n (λ j. f j r)) m h r k) j l)))

-- a set contains roles below 8 where it has each that there is
contains_eight : (s v : ℕ) → v < 2 ^ 8 → contains s v ≡ all_below 8 (λ r. in_set s r || lacks v r)
unfolding contains lacks
contains_eight s v h = same_test (contains s v) (all_below 8 (λ r. in_set s r || not (in_set v r)))
    (λ t. all_each (λ r. in_set s r || not (in_set v r)) 8
    (λ r l. flip (in_set v r) (in_set s r) (all_at (λ r. not (in_set v r) || in_set s r) 32 t r (omega arith))))
    (λ t. all_each (λ r. not (in_set v r) || in_set s r) 32 (λ r l. by r t))
  where
    flip : (a b : Bool) → (not a || b) ≡ true → (b || not a) ≡ true
    flip true true e = refl
    flip true false e = e
    flip false b e = or-true b

    back : (a b : Bool) → (b || not a) ≡ true → (not a || b) ≡ true
    back true true e = refl
    back true false e = e
    back false b e = refl

    by : (r : ℕ) → all_below 8 (λ r. in_set s r || not (in_set v r)) ≡ true → (not (in_set v r) || in_set s r) ≡ true
    by r t = ⊎_elim
        (λ i. back (in_set v r) (in_set s r) (all_at (λ r. in_set s r || not (in_set v r)) 8 t r (ltb-true r 8 i)))
        (λ i. rw (in_set_high 8 v r h (ltb-false r 8 i))) (met_or_not (ltb r 8))

module _ (k : List ℕ) (i j number sum set : ℕ) where
  -- a condition that isn't on the set asks for no role
  none_asked : (condition_attribute k i j ≡ 3 → ⊥) → all_below 8 (λ r. in_set set r || met_at k i j 3 r) ≡ true
  none_asked d = all_each (λ r. in_set set r || met_at k i j 3 r) 8
      (λ r l. rw (off k i j 3 d r) (or-true (in_set set r)))

  -- a condition holds where it is met by the number of entries, the sum, the number of roles, and each role
  abbrev Apart : Type 0
  Apart = condition_holds k number sum set i j
      ≡ ((met_at k i j 0 number && met_at k i j 1 sum)
      && (met_at k i j 2 (role_num set) && all_below 8 (λ r. in_set set r || met_at k i j 3 r)))

  on_number : condition_attribute k i j ≡ 0 → Apart
  unfolding condition_holds attribute stands_to
  on_number e =
      rw (
        ← on k i j 0 (omega arith) e number,
        off k i j 1 (λ d. omega arith) sum,
        off k i j 2 (λ d. omega arith) (role_num set),
        none_asked (λ d. omega arith),
        e,
        and-true,
        and-true,
      )

  on_sum : condition_attribute k i j ≡ 1 → Apart
  unfolding condition_holds attribute stands_to
  on_sum e =
      rw (
        off k i j 0 (λ d. omega arith) number,
        ← on k i j 1 (omega arith) e sum,
        off k i j 2 (λ d. omega arith) (role_num set),
        none_asked (λ d. omega arith),
        e,
        and-true,
      )

  on_role_num : condition_attribute k i j ≡ 2 → Apart
  unfolding condition_holds attribute stands_to
  on_role_num e =
      rw (
        off k i j 0 (λ d. omega arith) number,
        off k i j 1 (λ d. omega arith) sum,
        ← on k i j 2 (omega arith) e (role_num set),
        none_asked (λ d. omega arith),
        e,
        and-true,
      )

  on_role_set : {roles : ℕ} → roles ≤ 8 → condition_attribute k i j ≡ 3
      → (condition_operator k i j ≡ 6) × (condition_value k i j < 2 ^ roles) → Apart
  unfolding condition_holds attribute meets
  on_role_set {roles} l e (o, small) =
      let eight : condition_value k i j < 2 ^ 8 = lt_of_lt_of_le small (pow_mono l) in
      let each : all_below 8 (λ r. in_set set r || lacks (condition_value k i j) r)
      ≡ all_below 8 (λ r. in_set set r || met_at k i j 3 r)
      = all_same (λ r. in_set set r || lacks (condition_value k i j) r) (λ r. in_set set r || met_at k i j 3 r) 8
      (λ r m. rw (on_roles k i j e r)) in
      rw (
        off k i j 0 (λ d. omega arith) number,
        off k i j 1 (λ d. omega arith) sum,
        off k i j 2 (λ d. omega arith) (role_num set),
        ← each,
        e,
        o,
      ) (contains_eight set (condition_value k i j) eight)

  condition_apart : {roles : ℕ} → roles ≤ 8
      → ConditionFine roles (condition_attribute k i j) (condition_operator k i j) (condition_value k i j) → Apart
  condition_apart l f = by (condition_attribute k i j) refl f.attribute_le
    where
      by : (a : ℕ) → condition_attribute k i j ≡ a → a ≤ 3 → Apart
      by zero e m = on_number e
      by (suc zero) e m = on_sum e
      by (suc (suc zero)) e m = on_role_num e
      by (suc (suc (suc zero))) e m = on_role_set l e (f.set e)
      by (suc (suc (suc (suc a)))) e m = absurd (omega arith)

-- so does a clause
pub clause_apart : (k : List ℕ) (i number sum set : ℕ) → Checked k → i < record_count clauses k
    → clause_holds k number sum set i
    ≡ ((met k i 0 number && met k i 1 sum)
    && (met k i 2 (role_num set) && all_below 8 (λ r. in_set set r || met k i 3 r)))
unfolding clause_holds met met_below
clause_apart k i number sum set t h =
    let n : ℕ = clause_length k i in
    let p : ℕ → ℕ → ℕ → Bool = λ a x j. met_at k i j a x in
    let roles : ℕ → Bool = λ j. all_below 8 (λ r. in_set set r || p 3 r j) in
    all_same (condition_holds k number sum set i)
    (λ j. (p 0 number j && p 1 sum j) && (p 2 (role_num set) j && roles j)) n
    (λ j l. condition_apart k i j number sum set t.roles_le (slot t h l).condition)
    ∙ all_both (λ j. p 0 number j && p 1 sum j) (λ j. p 2 (role_num set) j && roles j) n
    ∙ ap₂ ◌&&◌ (all_both (p 0 number) (p 1 sum) n)
    (all_both (p 2 (role_num set)) roles n ∙ ap (λ (c : Bool). all_below n (p 2 (role_num set)) && c)
    (all_swap (λ j r. in_set set r || p 3 r j) n 8
    ∙ all_same (λ r. all_below n (λ j. in_set set r || p 3 r j)) (λ r. in_set set r || all_below n (p 3 r)) 8
    (λ r l. all_or (in_set set r) (p 3 r) n)))
