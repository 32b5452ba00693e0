-- A chain of four refusals; a group that passes them has at most six entries, in roles below 8.
use Rattle.std.proofs.Common.{ℕ, ◌≤◌, Bool, true, false, List, ◌≡◌}
use mathlib.Core.Path.{sym, ◌∙◌}
use Rattle.reader.specs.Tables.{role_count, user_count}
use Rattle.weights.specs.Acting.{may_act}
use Rattle.decision.specs.Groups.{length_refused, some_unknown, some_twice, some_ineligible, members_refusal}
use Rattle.decision.specs.Decision.{members_of}
use Rattle.decision.specs.Members.{Seated}
use Rattle.decision.proofs.Granting.{unknown_same, short_enough, role_below}
use Rattle.decision.proofs.members.Members.of.Goals as goal

-- where each test of the chain, up to one that is met, fails
module _ (b g : List ℕ) where
  unknown_is : {t : Bool} {U R : ℕ} → t ≡ some_unknown U R g → U ≡ user_count b → R ≡ role_count b →
      some_unknown (user_count b) (role_count b) g ≡ t
  unknown_is is users roles = sym (is ∙ unknown_same b g _ _ users roles)

  by_12 : length_refused g ≡ true → 12 ≡ members_of b g
  unfolding members_refusal
  by_12 e = rw e

  module _ (whole : length_refused g ≡ false) where
    by_13 : some_unknown (user_count b) (role_count b) g ≡ true → 13 ≡ members_of b g
    unfolding members_refusal
    by_13 e = rw (whole, e)

    module _ (known : some_unknown (user_count b) (role_count b) g ≡ false) where
      by_14 : some_twice g ≡ true → 14 ≡ members_of b g
      unfolding members_refusal
      by_14 e = rw (whole, known, e)

      by_15 : some_twice g ≡ false → some_ineligible (may_act b) g ≡ true → 15 ≡ members_of b g
      unfolding members_refusal
      by_15 once e = rw (whole, known, once, e)

      by_none : some_twice g ≡ false → some_ineligible (may_act b) g ≡ false → 0 ≡ members_of b g
      unfolding members_refusal
      by_none once e = rw (whole, known, once, e)

-- what the group is where neither 12 nor 13 applies
seated : (U R : ℕ) {g : List ℕ} → length_refused g ≡ false → some_unknown U R g ≡ false → R ≤ 8 → Seated g
seated U R whole known small = record { few = short_enough _ whole; low = role_below U R _ known small }

pub returns-then-length_refused-clause-number : goal.returns-then-length_refused-clause-number
returns-then-length_refused-clause-number c = by_12 c.args.acting.now c.args.group.now (sym c.if-length_refused.ensures)

pub returns-then-some_unknown-clause-number : goal.returns-then-some_unknown-clause-number
returns-then-some_unknown-clause-number c =
    by_13 c.args.acting.now c.args.group.now (sym c.if-length_refused.ensures)
    (unknown_is _ _ c.if-some_unknown.ensures c.user_count.ensures.0 c.role_count.ensures.0)

pub returns-then-some_twice-clause-number : goal.returns-then-some_twice-clause-number
returns-then-some_twice-clause-number c =
    by_14 c.args.acting.now c.args.group.now (sym c.if-length_refused.ensures)
    (unknown_is _ _ c.if-some_unknown.ensures c.user_count.ensures.0 c.role_count.ensures.0)
    (sym c.if-some_twice.ensures)

pub returns-then-some_ineligible-clause-number : goal.returns-then-some_ineligible-clause-number
returns-then-some_ineligible-clause-number c =
    by_15 c.args.acting.now c.args.group.now (sym c.if-length_refused.ensures)
    (unknown_is _ _ c.if-some_unknown.ensures c.user_count.ensures.0 c.role_count.ensures.0)
    (sym c.if-some_twice.ensures) (sym c.if-some_ineligible.ensures)

pub invariant_of-result : goal.invariant_of-result
invariant_of-result c =
    seated _ _ (sym c.if-length_refused.ensures) (sym c.if-some_unknown.ensures) c.role_count.ensures.1

pub returns-clause-seated : goal.returns-clause-seated
returns-clause-seated c =
    seated _ _ (sym c.if-length_refused.ensures) (sym c.if-some_unknown.ensures) c.role_count.ensures.1

pub returns-clause-number : goal.returns-clause-number
returns-clause-number c =
    by_none c.args.acting.now c.args.group.now (sym c.if-length_refused.ensures)
    (unknown_is _ _ c.if-some_unknown.ensures c.user_count.ensures.0 c.role_count.ensures.0)
    (sym c.if-some_twice.ensures) (sym c.if-some_ineligible.ensures)
