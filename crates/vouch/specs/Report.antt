-- The vouching report: of the groups that the vouching decision grants, those that a named requester leads.
use Rattle.std.specs.Prelude.{ℕ, ◌*◌, ◌<◌, ◌≤◌, false, not, cond, ◌≡◌, List, length, ltb, eqb}
use Rattle.reader.specs.declared.Answer.{Answer}
use Rattle.reader.specs.Tables.{user_count, permission_count}
use Rattle.weights.specs.declared.Context.{Context}
use Rattle.weights.specs.Contexts.{out_of_range}
use Rattle.decision.specs.Groups.{entry_user}
use Rattle.report.specs.Smallest.{Deciding}
use Rattle.report.specs.Report.{room, report_answer, Reported}
use Rattle.report.specs.Demand.{Granting, Demand3}
use Rattle.vouch.specs.Decision.{stated, Lent, decision_vouched}

-- a decision, asked about groups whose first entry is user q's; any other group gets 1, that is, isn't granted
abbrev pub led : ℕ → Deciding → Deciding
led q decision p g = cond (eqb (entry_user g 0) q) (decision p g) 1

-- the vouching decision, asked about groups that requester q leads
abbrev pub led_vouched : List ℕ → ℕ → List ℕ → Context → ℕ → Deciding
led_vouched register threshold b at q = led q (decision_vouched register threshold b at)

-- 11 of the context, 13 of a requester who isn't in U, 19 of a buffer of n bytes, or 0
abbrev pub fitting_for : List ℕ → Context → ℕ → ℕ → ℕ
fitting_for b at q n = cond (out_of_range at) 11 (cond (not (ltb q (user_count b))) 13 (room b n))

-- the first of refusals 1 to 9, 25, 27, 11, 13 and 19 that applies, or 0
unfoldable pub report_refusal_vouched : List ℕ → ℕ → List ℕ → Context → ℕ → ℕ → ℕ
report_refusal_vouched register threshold b at q n = stated register threshold b (fitting_for b at q n)

-- the answer, for a buffer of n bytes
abbrev pub answer_vouched : List ℕ → ℕ → List ℕ → Context → ℕ → ℕ → Answer
answer_vouched register threshold b at q n =
    report_answer (led_vouched register threshold b at q) (permission_count b)
    (report_refusal_vouched register threshold b at q n)

-- the promise of the vouching report: the requester's entry comes first, the others from entry 1 on by rising user
abbrev pub ReportedVouched : List ℕ → ℕ → List ℕ → Context → ℕ → List ℕ → List ℕ → Answer → Type 0
ReportedVouched register threshold b at q out after r =
    Reported 1 (led_vouched register threshold b at q) (permission_count b)
    (report_refusal_vouched register threshold b at q (length out)) out after r

-- the groups that requester q leads and the vouching decision grants
abbrev pub granted_led : List ℕ → ℕ → List ℕ → Context → ℕ → Granting
granted_led register threshold b at q p g =
    (entry_user g 0 ≡ q) × (decision_vouched register threshold b at p g ≡ 0)

-- what is demanded of it: demand 3 of `decide_vouched`'s answers to the same register and threshold, about groups whose
-- first entry is the requester's, where none of refusals 1 to 9, 25, 27, 11, 13 and 19 applies
abbrev pub DemandedVouched : List ℕ → ℕ → List ℕ → Context → ℕ → List ℕ → List ℕ → Answer → Type 0
DemandedVouched register threshold b at q out after r =
    Lent register threshold b → out_of_range at ≡ false → q < user_count b → 13 * permission_count b ≤ length out →
    Demand3 (granted_led register threshold b at q) (permission_count b) after r
