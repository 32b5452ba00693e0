-- `write` meets its contract: each turn writes a row's records behind those of the rows before.
use Rattle.std.proofs.Common.{ℕ, ◌≡◌, ◌+◌, ◌<◌, ◌≤◌, arith, length, sym, subst}
use Rattle.std.proofs.lemmas.List.{get_or-take, length-take-le}
use Rattle.conflicts.specs.Rows.{rows_records}
use Rattle.conflicts.proofs.Lists.{wrote_none, wrote_more, rows_none, rows_more, rows_room}
use Rattle.conflicts.proofs.rows.Conflicts.write.Goals as goal

pub loop-i-init : goal.loop-i-init
loop-i-init c = rw (rows_none c.from-kind.result c.args.self.now.rows) (wrote_none c.args.out.now c.args.at)

pub write_row-next-requires : goal.write_row-next-requires
write_row-next-requires c =
    let s = c.args.self.now in
    let few = s.few in
    let kind = c.from-kind.result in
    let size = length-take-le s.firsts s.rows (omega arith) in
    let l : c.loop-i.i < s.firsts = omega arith in
    let room = rows_room kind s.rows s.firsts c.loop-i.i l in
    let Fits : ℕ → Type 0 = λ k. c.args.at + length (rows_records k s.rows s.firsts) ≤ length c.args.out.now in
    let enough = subst Fits (sym c.from-kind.ensures) c.requires in
    rw (get_or-take s.firsts s.rows c.loop-i.i 0 l) (omega (arith, room, c.loop-i.invariant.place, enough))

pub loop-i-preserved : goal.loop-i-preserved
loop-i-preserved c =
    let s = c.args.self.now in
    let few = s.few in
    let size = length-take-le s.firsts s.rows (omega arith) in
    let row = get_or-take s.firsts s.rows c.loop-i.i 0 (omega arith) in
    rw (rows_more c.from-kind.result s.rows c.loop-i.i, ← row)
    (wrote_more c.loop-i.invariant _ c.write_row-next.ensures)

pub returns : goal.returns
returns c =
    let s = c.args.self.now in
    let few = s.few in
    let size = length-take-le s.firsts s.rows (omega arith) in
    let end : c.loop-i.i ≡ s.firsts = omega arith in
    rw (← c.from-kind.ensures, ← end) (c.loop-i.invariant.place, c.loop-i.invariant.bytes)
