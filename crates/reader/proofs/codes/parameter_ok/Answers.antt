-- The answer is 0 where the parameter is a product, and 5 where it isn't.
use Rattle.std.proofs.Common.{ℕ, Bool, true, false, cond, ◌≡◌, refl, sym, ap, ◌∙◌}
use Rattle.std.specs.Prelude.{Result, Ok, Err}
use Rattle.std.specs.Result.{is_ok}
use native.Mathlib.Nat.{suc-ne-zero}
use Rattle.reader.specs.declared.refusal.Refused.{Refused}
use Rattle.reader.specs.Refusals.{answer_from}
use Rattle.reader.proofs.Results.{refusal_pos}
use Rattle.reader.proofs.Trying.{answer_few}
use Rattle.reader.proofs.codes.parameter_ok.Goals as goal

says : (ok : Bool) (given : Result ℕ Refused) → (answer_from given).refusal ≡ cond ok 0 5 → is_ok given ≡ ok
says true (Ok n) h = refl
says true (Err e) h = absurd (refusal_pos e.refusal h)
says false (Ok n) h = absurd (suc-ne-zero 4 (sym h))
says false (Err e) h = refl

pub returns : goal.returns
returns c =
    let answer = c.try_codes.ensures ∙ answer_few c.args.roles c.args.x c.requires in
    c.is_ok.ensures.value ∙ says _ _ (ap (λ a. a.refusal) answer)
