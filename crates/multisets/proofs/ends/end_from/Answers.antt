-- The user at the place is the next one, or a later one is.
use Rattle.std.proofs.Common.{refl, rules}
use borrow.Author.Tests.{eq-eqb, ne_eqb}
use Rattle.folds.specs.Sets.{in_set}
use Rattle.multisets.proofs.Nexts.{end_here, end_later}
use Rattle.multisets.proofs.ends.end_from.Goals as goal

pub returns-then-sets-from-eq1 : goal.returns-then-sets-from-eq1
unfolding in_set
returns-then-sets-from-eq1 c = λ later.
    let p = c.requires in
    end_here c.args.sets.now (search rules) c.args.from c.args.role _ p.0 (eq-eqb _ _ c.if-sets-from-eq1.true) refl

pub returns-else-sets-from-eq1 : goal.returns-else-sets-from-eq1
unfolding in_set
returns-else-sets-from-eq1 c = λ later.
    end_later c.args.sets.now (search rules) c.args.from c.args.role _ (ne_eqb _ _ c.if-sets-from-eq1.false) later
