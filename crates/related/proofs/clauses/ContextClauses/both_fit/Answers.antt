-- `both_fit` meets its contract: v is in the parameter's range, fits clause i, and fits clause j.
use Rattle.std.proofs.Common.{rules, tests}
use Rattle.related.specs.Related.{both_fit}
use Rattle.related.proofs.clauses.ContextClauses.both_fit.Goals as goal

pub returns-then-fits_all : goal.returns-then-fits_all
unfolding both_fit
returns-then-fits_all c = search (rules, tests)

pub returns-else-fits_all : goal.returns-else-fits_all
unfolding both_fit
returns-else-fits_all c = search (rules, tests)
