-- `cover_sets` meets its contract: each policy has its set.
use Rattle.std.proofs.Common.{◌≡◌, length, rules}
use Rattle.folds.proofs.Parts.{before_end}
use Rattle.conflicts.proofs.covers.cover_sets.Goals as goal

pub returns : goal.returns
returns c h are =
    let (is, few) = c.count.ensures.count in
    let size : length c.fill.new.places ≡ c.count.result = search rules in
    record {
      small = λ i l.
          let set = c.fill.ensures i 0 (search rules) in
          rw (before_end _ c.fill.new.places c.count.result i size (rw is l)) (search (rules, are));
      policy = λ i r l m.
          let set = c.fill.ensures i 0 (search rules) in
          rw (before_end _ c.fill.new.places c.count.result i size (rw is l)) (search (rules, are));
    }
