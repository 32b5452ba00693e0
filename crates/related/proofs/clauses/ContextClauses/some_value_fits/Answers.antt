-- `some_value_fits` meets its contract: it looks for a condition of clause s whose value, or one more, fits.
use Rattle.std.proofs.Common.{rules, tests}
use Rattle.folds.proofs.Chains.{any_of_range}
use Rattle.related.specs.Related.{value_fits, some_value_fits}
use Rattle.related.proofs.clauses.ContextClauses.some_value_fits.Goals as goal

pub returns : goal.returns
unfolding some_value_fits
returns c =
    let a = c.args in
    rw (← c.length_of.ensures)
    (any_of_range (value_fits a.self.now a.s a.meeting.i a.meeting.j a.meeting.p) c.length_of.result _ _ _ (cc)
    (λ x b q k. search (rules, tests)) c.any.ensures.ran)
