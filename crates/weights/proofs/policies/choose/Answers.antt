-- A turn is argued of plain values.
use Rattle.std.proofs.Common.{◌≡◌, ℕ, ◌+◌, ◌*◌, ◌<◌, ◌≤◌, Bool, true, false, cond, List, get_or, set}
use Rattle.std.proofs.Common.{refl, sym, ap, ◌∙◌, arith, lt_trans}
use Rattle.reader.specs.Fields.{policy_role, policy_permission, policy_weight, policy_type, policy_context}
use Rattle.reader.specs.Rules.{policies_bad}
use Rattle.reader.specs.Tables.{policies, record_count}
use Rattle.reader.proofs.Accepted.{PolicyFine, policy_fine}
use Rattle.weights.specs.Weights.{any_type, type_one}
use Rattle.weights.specs.Setting.{in_force_by, taken_up, AreChosen}
use Rattle.weights.proofs.Choice.{vacant, off_context, off_type}
use Rattle.weights.proofs.Resolving.{Keeps, keeps_none, keeps_same, keeps_more, keeps_placed, kept_below}
use Rattle.weights.proofs.Weigh.{light_chosen}
use Rattle.weights.proofs.policies.choose.Goals as goal
use Rattle.weights.proofs.policies.choose.Goals.{then-in_force+then-is_inherited, then-in_force+else-is_inherited}
use Rattle.weights.proofs.policies.choose.Goals.{else-in_force}

-- what is kept of the first i policies, of any type and of type 1
record Turn (rules : List ℕ) (s : ℕ) (a own_kept inh_kept own inh : List ℕ) (i : ℕ) : Type 0 where
  any : Keeps rules (in_force_by s) any_type a i own_kept own
  one : Keeps rules (in_force_by s) type_one a i inh_kept inh

-- one turn, of plain values
module _ {rules : List ℕ} {s : ℕ} {a own_kept inh_kept own inh : List ℕ} {i : ℕ}
    (turn : Turn rules s a own_kept inh_kept own inh i) (ok : policies_bad 8 16 a ≡ false)
    (l : i < record_count policies a) where
  heavy : (j : ℕ) → j < i → 1 ≤ policy_weight a j
  heavy j m = (policy_fine 8 16 a j ok (omega arith)).weight_pos

  fine : PolicyFine 8 16 a i
  fine = policy_fine 8 16 a i ok l

  -- policy i is not active
  skipped : in_force_by s (policy_context a i) ≡ false → Turn rules s a own_kept inh_kept own inh (i + 1)
  skipped off = record {
    any = keeps_same rules (in_force_by s) any_type a (off_context (in_force_by s) any_type a i off) turn.any;
    one = keeps_same rules (in_force_by s) type_one a (off_context (in_force_by s) type_one a i off) turn.one;
  }

  -- it is active; k is its place
  module _ {k : ℕ} (on : in_force_by s (policy_context a i) ≡ true)
      (at_k : k ≡ 8 * policy_permission a i + policy_role a i) (small : k < 128) {own_kept' own' : List ℕ}
      (own_kept_is : own_kept' ≡ cond (taken_up rules a i own_kept own k) (set own_kept k i) own_kept)
      (own_is : own' ≡ cond (taken_up rules a i own_kept own k) (set own k (policy_weight a i)) own) where
    any_more : Keeps rules (in_force_by s) any_type a (i + 1) own_kept' own'
    any_more =
        keeps_more rules (in_force_by s) any_type a heavy on refl fine.role at_k small own_kept_is own_is turn.any

    -- of type 0
    taken : type_one (policy_type a i) ≡ false → Turn rules s a own_kept' inh_kept own' inh (i + 1)
    taken other = record {
      any = any_more;
      one = keeps_same rules (in_force_by s) type_one a (off_type (in_force_by s) type_one a i other) turn.one;
    }

    -- of type 1
    taken_both : {inh_kept' inh' : List ℕ} → type_one (policy_type a i) ≡ true →
        inh_kept' ≡ cond (taken_up rules a i inh_kept inh k) (set inh_kept k i) inh_kept →
        inh' ≡ cond (taken_up rules a i inh_kept inh k) (set inh k (policy_weight a i)) inh →
        Turn rules s a own_kept' inh_kept' own' inh' (i + 1)
    taken_both is inh_kept_is inh_is = record {
      any = any_more;
      one =
          keeps_more rules (in_force_by s) type_one a heavy on is fine.role at_k small inh_kept_is inh_is turn.one;
    }

-- a policy kept at the place k is in the table
there : {rules : List ℕ} {in_force f : ℕ → Bool} {a kept weights : List ℕ} {i n r p k : ℕ} →
    Keeps rules in_force f a i kept weights → r < 8 → p < 16 → k ≡ 8 * p + r → i < n →
    (get_or weights k 0 ≡ 0 → ⊥) → get_or kept k 0 < n
there keeps role permission at_k l some = lt_trans (kept_below _ _ _ _ keeps _ _ role permission at_k some) l

-- what is kept at the end
counted : {rules : List ℕ} {s : ℕ} {a own_kept inh_kept own inh : List ℕ} {i : ℕ} →
    Turn rules s a own_kept inh_kept own inh i → AreChosen rules s a i own inh
counted turn = record { any = keeps_placed _ _ _ _ turn.any; one = keeps_placed _ _ _ _ turn.one }

pub loop-i-init : goal.loop-i-init
loop-i-init c =
    record { any = keeps_none _ _ _ _ refl refl vacant.zero; one = keeps_none _ _ _ _ refl refl vacant.zero }

pub take_up-requires : goal.take_up-requires
take_up-requires c =
    let (at_place, small) = c.place_of-place.ensures in
    let (count_is, few) = c.count-i-end.ensures.count in
    let l = rw count_is at c.loop-i-test.true in
    let kept = there c.loop-i.invariant.any c.role.ensures.1 c.permission.ensures.1 at_place l in
    (small, omega arith, l, kept)

pub take_up-requires-then-is_inherited : goal.take_up-requires-then-is_inherited
take_up-requires-then-is_inherited c =
    let (at_place, small) = c.place_of-place.ensures in
    let (count_is, few) = c.count-i-end.ensures.count in
    let l = rw count_is at c.loop-i-test.true in
    let kept = there c.loop-i.invariant.one c.role.ensures.1 c.permission.ensures.1 at_place l in
    (small, omega arith, l, kept)

pub loop-i-preserved : goal.loop-i-preserved
loop-i-preserved c =
    let h = c.loop-i.invariant in
    let ok = c.count-i-end.ensures.passed in
    let l = rw c.count-i-end.ensures.count.0 at c.loop-i-test.true in
    let test = ap (in_force_by c.args.contexts) (sym c.context.ensures.0) ∙ sym c.in_force.ensures in
    let any = c.loop-i.any in
    let one = c.loop-i.one in
    let turn :
    Turn c.args.list.now c.args.contexts c.args.a.now any.policy one.policy any.weight one.weight c.loop-i.i =
    record { any = h.any; one = h.one } in
    elim c.if-in_force.branch [
      | then-in_force+then-is_inherited w ↦
          let small = w.place_of-place.ensures.1 in
          let is = rw (w.permission.ensures.0, w.role.ensures.0) at w.place_of-place.ensures.0 in
          let one = sym w.is_inherited.ensures.0 ∙ w.if-is_inherited.true in
          let own = w.take_up.ensures in
          let inh = w.take_up-then-is_inherited.ensures in
          let next = taken_both turn ok l (test ∙ w.if-in_force.true) is small own.0 own.1 one inh.0 inh.1 in
          rw (w.any-is, w.one-is) (record { any = next.any; one = next.one })
      | then-in_force+else-is_inherited w ↦
          let small = w.place_of-place.ensures.1 in
          let is = rw (w.permission.ensures.0, w.role.ensures.0) at w.place_of-place.ensures.0 in
          let other = sym w.is_inherited.ensures.0 ∙ w.if-is_inherited.false in
          let own = w.take_up.ensures in
          let next = taken turn ok l (test ∙ w.if-in_force.true) is small own.0 own.1 other in
          rw (w.any-is, w.one-is) (record { any = next.any; one = next.one })
      | else-in_force w ↦
          let next = skipped turn ok l (test ∙ w.if-in_force.false) in
          rw (w.any-is, w.one-is) (record { any = next.any; one = next.one })
    ]

pub invariant_of-result : goal.invariant_of-result
invariant_of-result c =
    let (count_is, few) = c.count-i-end.ensures.count in
    let end : c.loop-i.i ≡ record_count policies c.args.a.now = omega arith in
    let h = c.loop-i.invariant in
    let are = rw end at (counted (record { any = h.any; one = h.one })) in
    record { light = light_chosen c.count-i-end.ensures.passed are }

pub returns : goal.returns
returns c =
    let (count_is, few) = c.count-i-end.ensures.count in
    let end : c.loop-i.i ≡ record_count policies c.args.a.now = omega arith in
    let h = c.loop-i.invariant in
    rw end at (counted (record { any = h.any; one = h.one }))
