-- `fits_all` meets its contract: a clause behind the table has no conditions, one in it at most 3 by the rules.
use Rattle.std.proofs.Common.{rules, tests, arith}
use Rattle.folds.specs.Below.{all_below}
use Rattle.related.specs.Related.{fits_at, fits}
use Rattle.related.proofs.Relating.{no_conditions, clause_inside}
use Rattle.related.proofs.clauses.ContextClauses.fits_all.Goals as goal

pub all_pass-requires-clause-inside : goal.all_pass-requires-clause-inside
all_pass-requires-clause-inside c =
    let (fine, whole) = c.self.invariant in
    clause_inside _ fine whole c.args.i (omega arith)

pub returns-then-self-i : goal.returns-then-self-i
unfolding fits all_below
returns-then-self-i c =
    let none = no_conditions _ c.self.invariant.1 c.args.i (omega arith) in
    rw (← c.self.view_is, none) (search (rules, tests))

pub returns-else-self-i : goal.returns-else-self-i
unfolding fits
returns-else-self-i c =
    let a = c.args in
    rw (← c.self.view_is) (c.all_pass.ensures (fits_at _ a.i a.p a.v) (λ k r l q. search (rules, tests)))
