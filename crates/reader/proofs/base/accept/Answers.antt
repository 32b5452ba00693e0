-- Where one of 1 to 3 applies, it is the answer; where none does, the answer is what the records' chain gives.
use Rattle.std.proofs.Common.{ap, sym, ◌∙◌}
use Rattle.reader.specs.Rules.{refusal_of, records_refusal}
use Rattle.reader.proofs.Accepted.{refused_frame, refused_records}
use Rattle.reader.proofs.Results.{refusal_pos, handed_on}
use Rattle.reader.proofs.base.accept.Goals as goal

pub returns-in_err-frame-clause-number : goal.returns-in_err-frame-clause-number
returns-in_err-frame-clause-number c =
    let is = c.in_err-frame.ensures.number in
    handed_on _ _ c.from_residual.ensures.1 ∙ is ∙ sym (refused_frame _ (λ e. refusal_pos _ (is ∙ e)))

pub returns-in_err-records_refusal-clause-number : goal.returns-in_err-records_refusal-clause-number
returns-in_err-records_refusal-clause-number c =
    handed_on _ _ c.from_residual-in_err-records_refusal.ensures.1 ∙ c.in_err-records_refusal.ensures
    ∙ ap records_refusal c.in_ok-frame.ensures.same
    ∙ sym (refused_records _ (sym c.in_ok-frame.ensures.number))

pub invariant_of-result : goal.invariant_of-result
invariant_of-result c =
    ap refusal_of c.in_ok-frame.ensures.same ∙ refused_records _ (sym c.in_ok-frame.ensures.number)
    ∙ sym (ap records_refusal c.in_ok-frame.ensures.same) ∙ sym c.in_ok-records_refusal.ensures

pub returns-clause-number : goal.returns-clause-number
returns-clause-number c =
    c.in_ok-records_refusal.ensures ∙ ap records_refusal c.in_ok-frame.ensures.same
    ∙ sym (refused_records _ (sym c.in_ok-frame.ensures.number))
