-- `count` meets its contract: a record for each bit of a row.
use Rattle.std.proofs.Common.{rules, arith, take}
use Rattle.std.proofs.lemmas.List.{length-take-le}
use Rattle.std.proofs.lemmas.Iterator.{YieldsList-from_slice, YieldsList-from_map}
use Rattle.std.proofs.lemmas.Iterator.Adapters.{fits_from_length, at_most_from_yields_List}
use Rattle.std.proofs.lemmas.Iterator.Consumers.{YieldsList-at, sum_by_from_yields_List}
use Rattle.conflicts.specs.Kinds.{kind_number}
use Rattle.conflicts.proofs.Lists.{members, rows_length, rows_bits}
use Rattle.conflicts.proofs.rows.Conflicts.count.Goals as goal

pub sum-requires-clause-fits : goal.sum-requires-clause-fits
sum-requires-clause-fits c =
    let s = c.args.self.now in
    let few = s.few in
    let size = length-take-le s.firsts s.rows (omega arith) in
    let rows = YieldsList-at c.map.ensures.source (YieldsList-from_slice _ c.iter.ensures.rest) in
    fits_from_length _ _ 64 _ (at_most_from_yields_List rows (omega arith)) c.map.ensures.closure (omega arith)
    (λ x r q k. search rules)

pub returns : goal.returns
returns c =
    let s = c.args.self.now in
    let few = s.few in
    let rows = YieldsList-at c.map.ensures.source (YieldsList-from_slice _ c.iter.ensures.rest) in
    let sum =
    sum_by_from_yields_List members (take s.firsts s.rows) _ _ c.sum.ensures.ran
    (YieldsList-from_map _ members rows c.map.ensures.closure (λ x r q k. search rules)) in
    let size = rows_length s.rows (kind_number s.kind) s.firsts (omega arith) in
    let bits = rows_bits s.rows s.firsts (omega arith) in
    (rw sum size, omega arith)
