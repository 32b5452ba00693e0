-- `of` meets its contract: the part lent is the first rows.
use Rattle.std.proofs.Common.{◌≡◌, length, rules}
use Rattle.folds.proofs.Parts.{before_end}
use Rattle.conflicts.proofs.rows.Conflicts.of.Goals as goal

pub returns-clause-rows : goal.returns-clause-rows
returns-clause-rows g c =
    let few = c.requires.few in
    let size : length c.fill.new.places ≡ c.args.firsts = search rules in
    λ i l. rw (before_end _ c.fill.new.places c.args.firsts i size l) (c.fill.ensures i 0 (search rules))
