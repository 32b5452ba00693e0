-- `present` meets its contract: 12 to 15 by `Members::of`, then 24 by the members' days.
use Rattle.std.proofs.Common.{ℕ, ◌/◌, ◌<◌, Bool, true, false, List, length, ◌≡◌}
use mathlib.Core.Path.{sym, ◌∙◌}
use Rattle.folds.proofs.Bools.{refused, unrefused}
use Rattle.reader.specs.Tables.{users, table_of}
use Rattle.reader.specs.Days.{out_of_days}
use Rattle.reader.proofs.Results.{refusal_pos, handed_on}
use Rattle.weights.specs.declared.Context.{Context}
use Rattle.decision.specs.Groups.{entry_count, entry_user, some_out_of_date}
use Rattle.decision.specs.Decision.{out_of_date, members_of, present_of}
use Rattle.decision.proofs.Granting.{members_same, members_of_lem, user_known}
use Rattle.decision.proofs.present.Goals as goal
use Rattle.decision.proofs.present.Goals.{After-part}

-- what is read of a group g that none of 12 to 15 applies to: its bytes r, and the table U of the base
record Passed (b g r us : List ℕ) : Type 0 where
  none : members_of b g ≡ 0
  bytes : r ≡ g
  table : us ≡ table_of b users

-- its users are there
all_there : {b g r us : List ℕ} → Passed b g r us → (i : ℕ) → i < entry_count r → entry_user r i < length us / 8
all_there {g = g} d = rw (d.bytes, d.table) (user_known _ _ g (members_of_lem _ _ _ g d.none).known)

module _ (b : List ℕ) (at : Context) (g : List ℕ) where
  by_members : {n : ℕ} → n ≡ members_of b g → (n ≡ 0 → ⊥) → n ≡ present_of b at g 0
  by_members is some = is ∙ refused _ (λ h. some (is ∙ h))

  module _ {r us : List ℕ} (d : Passed b g r us) where
    out_is : {t : Bool} → t ≡ some_out_of_date (out_of_days us at.date) r → some_out_of_date (out_of_date b at) g ≡ t
    out_is days = sym (rw (d.bytes, d.table) at days)

    by_24 : true ≡ some_out_of_date (out_of_days us at.date) r → 24 ≡ present_of b at g 0
    by_24 days = sym (unrefused d.none ∙ rw (out_is days))

    by_none : false ≡ some_out_of_date (out_of_days us at.date) r → 0 ≡ present_of b at g 0
    by_none days = sym (unrefused d.none ∙ rw (out_is days))

-- after these calls, that is read
passed : (c : After-part) →
    Passed c.args.base.now c.args.group.now c.bytes.result.now c.part.result.now
passed c = record {
  none = sym (members_same c.args.group.now c.by.ensures c.in_ok-members.ensures.number);
  bytes = c.bytes.ensures.bytes ∙ c.in_ok-members.ensures.same;
  table = c.part.ensures.table;
}

pub returns-in_err-members-clause-number : goal.returns-in_err-members-clause-number
returns-in_err-members-clause-number c =
    handed_on _ _ c.from_residual.ensures.1
    ∙ by_members _ c.args.s.at _ (members_same c.args.group.now c.by.ensures c.in_err-members.ensures.number)
    (refusal_pos _)

pub some_out_of_date-requires : goal.some_out_of_date-requires
some_out_of_date-requires c = all_there (passed c)

pub returns-then-some_out_of_date-clause-number : goal.returns-then-some_out_of_date-clause-number
returns-then-some_out_of_date-clause-number c =
    let d = passed (goal.at.returns-then-some_out_of_date-clause-number c).After-part in
    by_24 c.args.base.now c.args.s.at _ d c.if-some_out_of_date.ensures

pub returns-clause-number : goal.returns-clause-number
returns-clause-number c =
    let d = passed (goal.at.returns-clause-number c).After-part in
    by_none c.args.base.now c.args.s.at _ d c.if-some_out_of_date.ensures
