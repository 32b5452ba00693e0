-- What lies outside the range and at its gap is struck out.
use Rattle.std.proofs.Common.{arith, ◌++◌, ◌-◌, length, drop}
use borrow.Rule.Slice.PartMut.{put_mid}
use Rattle.masks.specs.Clauses.{within, Struck}
use Rattle.masks.proofs.Striking.{struck_sides, struck_gap, struck_whole}
use Rattle.masks.proofs.clauses.strike_unmet.Goals as goal
use Rattle.masks.proofs.clauses.strike_unmet.Goals.{After-strike-2}

sides : (c : After-strike-2) →
    let then = c.strike.new.masks ++ drop c.min.result c.args.masks.now in
    Struck (length c.args.masks.now) (within c.range_of-range.result.low c.range_of-range.result.end) c.args.others
    c.args.masks.now (put_mid c.min-2.result (length then - c.min-2.result) then c.strike-2.new.masks)
sides c =
    struck_sides c.args.others c.range_of-range.result.low c.range_of-range.result.end c.args.masks.now
    c.strike.new.masks c.strike-2.new.masks c.min.ensures c.min-2.ensures c.strike.ensures c.strike-2.ensures

pub returns-then-but-count : goal.returns-then-but-count
returns-then-but-count c =
    let struck = sides (goal.at.returns-then-but-count c).After-strike-2 in
    let size = struck.size in
    struck_gap (rw c.in-Some.is at c.range_of-range.ensures) c.requires.1 c.requires.0 struck
    (omega (arith, c.if-but-count.true))

pub returns-else-but-count : goal.returns-else-but-count
returns-else-but-count c =
    struck_whole (rw c.in-Some.is at c.range_of-range.ensures) c.requires.1 c.requires.0
    (sides (goal.at.returns-else-but-count c).After-strike-2) c.if-but-count.false

pub returns-in_default : goal.returns-in_default
returns-in_default c =
    struck_whole (rw c.in_default.is at c.range_of-range.ensures) c.requires.1 c.requires.0
    (sides (goal.at.returns-in_default c).After-strike-2) c.requires.0
