-- `batch` meets its contract: 1 to 9, 11 and 28, then few queries by `answer_few`, more by `answer_many`.
use Rattle.std.proofs.Common.{ℕ, List, [], false, ◌≡◌, ◌≤◌, ◌/◌, length}
use mathlib.Core.Path.{ap, sym, ◌∙◌}
use Rattle.reader.specs.Rules.{refusal_of}
use Rattle.reader.proofs.Accepted.{accepted_as}
use Rattle.reader.proofs.Results.{refusal_pos, handed_on}
use Rattle.weights.specs.declared.Context.{Context}
use Rattle.weights.specs.declared.Fixed.{Fixed}
use Rattle.weights.specs.Contexts.{out_of_range}
use Rattle.weights.specs.Setting.{rules_of, FixedBy}
use Rattle.batch.specs.Steps.{Settled}
use Rattle.batch.specs.Batch.{fitting, answered_all}
use Rattle.batch.proofs.Answering.{fits, base_refused, base_accepted, bytes_kept, bytes_answered}
use Rattle.batch.proofs.batch.Goals as goal

-- the setting of the base accepted, in a context that isn't refused
settled : {a b : List ℕ} {at : Context} {s : Fixed} → a ≡ b → 0 ≡ refusal_of b → out_of_range at ≡ false →
    (s.at ≡ at) × (rules_of s ≡ []) × FixedBy a s → Settled a s
settled same ok in_range (held, none, fixed) = record {
  accepted = accepted_as same ok;
  in_range = ap out_of_range held ∙ in_range;
  fixed = fixed;
  unlisted = none;
}

pub returns-in_err-base-clause-refusal : goal.returns-in_err-base-clause-refusal
returns-in_err-base-clause-refusal c =
    handed_on _ _ c.from_residual.ensures.1
    ∙ base_refused c.args.base.now c.args.at c.args.queries.now c.args.answers.now c.in_err-base.ensures.number
    (refusal_pos _)

pub returns-in_err-base-clause-bytes : goal.returns-in_err-base-clause-bytes
returns-in_err-base-clause-bytes c =
    let b = c.args.base.now in
    let queries = c.args.queries.now in
    let out = c.args.answers.now in
    bytes_kept b c.args.at queries out
    (base_refused b c.args.at queries out c.in_err-base.ensures.number (refusal_pos _)) (refusal_pos _)

pub returns-in_err-fitting_refusal-clause-refusal : goal.returns-in_err-fitting_refusal-clause-refusal
returns-in_err-fitting_refusal-clause-refusal c =
    handed_on _ _ c.from_residual-in_err-fitting_refusal.ensures.1
    ∙ base_accepted c.args.base.now c.args.at c.args.queries.now c.args.answers.now c.in_ok-base.ensures.number
    c.in_err-fitting_refusal.ensures

pub returns-in_err-fitting_refusal-clause-bytes : goal.returns-in_err-fitting_refusal-clause-bytes
returns-in_err-fitting_refusal-clause-bytes c =
    let b = c.args.base.now in
    let queries = c.args.queries.now in
    let out = c.args.answers.now in
    bytes_kept b c.args.at queries out
    (base_accepted b c.args.at queries out c.in_ok-base.ensures.number c.in_err-fitting_refusal.ensures) (refusal_pos _)

-- what answers the queries asks for
room : (at : Context) (m n : ℕ) {a b : List ℕ} {s : Fixed} → a ≡ b → 0 ≡ refusal_of b → 0 ≡ fitting at m n →
    (s.at ≡ at) × (rules_of s ≡ []) × FixedBy a s → Settled a s × (m / 14 ≤ n)
room at m n same ok fit setting =
    let (in_range, few) = fits at m n (sym fit) in
    (settled same ok in_range setting, few)

-- answers for the base accepted and the setting's context are those for the base and the context
answered : (b : List ℕ) (at : Context) (queries out : List ℕ) {a now : List ℕ} {held : Context} → a ≡ b → held ≡ at →
    now ≡ answered_all a held queries out → now ≡ answered_all b at queries out
answered b at queries out {held = held} same is all =
    all ∙ ap (λ b. answered_all b held queries out) same ∙ ap (λ at. answered_all b at queries out) is

pub answer_few-requires : goal.answer_few-requires
answer_few-requires c =
    room c.args.at (length c.args.queries.now) (length c.args.answers.now) c.in_ok-base.ensures.same
    c.in_ok-base.ensures.number c.in_ok-fitting_refusal.ensures c.setting-s.ensures

pub answer_many-requires : goal.answer_many-requires
answer_many-requires c =
    room c.args.at (length c.args.queries.now) (length c.args.answers.now) c.in_ok-base.ensures.same
    c.in_ok-base.ensures.number c.in_ok-fitting_refusal.ensures c.setting-s.ensures

pub returns-then-queries-clause-refusal : goal.returns-then-queries-clause-refusal
returns-then-queries-clause-refusal c =
    base_accepted c.args.base.now c.args.at c.args.queries.now c.args.answers.now c.in_ok-base.ensures.number
    c.in_ok-fitting_refusal.ensures

pub returns-then-queries-clause-bytes : goal.returns-then-queries-clause-bytes
returns-then-queries-clause-bytes c =
    let b = c.args.base.now in
    let queries = c.args.queries.now in
    let out = c.args.answers.now in
    let none = base_accepted b c.args.at queries out c.in_ok-base.ensures.number c.in_ok-fitting_refusal.ensures in
    bytes_answered b c.args.at queries out none
    (answered b c.args.at queries out c.in_ok-base.ensures.same c.setting-s.ensures.0 c.answer_few.ensures)

pub returns-else-queries-clause-refusal : goal.returns-else-queries-clause-refusal
returns-else-queries-clause-refusal c =
    base_accepted c.args.base.now c.args.at c.args.queries.now c.args.answers.now c.in_ok-base.ensures.number
    c.in_ok-fitting_refusal.ensures

pub returns-else-queries-clause-bytes : goal.returns-else-queries-clause-bytes
returns-else-queries-clause-bytes c =
    let b = c.args.base.now in
    let queries = c.args.queries.now in
    let out = c.args.answers.now in
    let none = base_accepted b c.args.at queries out c.in_ok-base.ensures.number c.in_ok-fitting_refusal.ensures in
    bytes_answered b c.args.at queries out none
    (answered b c.args.at queries out c.in_ok-base.ensures.same c.setting-s.ensures.0 c.answer_many.ensures)
