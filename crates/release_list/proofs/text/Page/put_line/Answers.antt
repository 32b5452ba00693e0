-- Its four texts are put one behind the other, and the entries, whose users rise, in the order in which they stand.
use Rattle.std.proofs.Common.{arith, ◌∙◌}
use Rattle.release_list.proofs.Order.{line_room, line_written}
use Rattle.release_list.proofs.Stores.{room_behind}
use Rattle.release_list.proofs.text.Page.put_line.Goals as goal

pub put_number-requires : goal.put_number-requires
put_number-requires c =
    let a = c.args in
    let (rise, fits) = c.requires in
    omega (arith, fits, line_room a.p a.k a.group.now rise (λ i. (c.type_inv.group i).fits))

pub put_number-requires-2 : goal.put_number-requires-2
put_number-requires-2 c =
    let a = c.args in
    let (rise, fits) = c.requires in
    let all = line_room a.p a.k a.group.now rise (λ i. (c.type_inv.group i).fits) in
    room_behind _ c.put_number.ensures.written (omega (arith, fits, all))

pub put_entries-requires : goal.put_entries-requires
put_entries-requires c =
    let a = c.args in
    let (rise, fits) = c.requires in
    let all = line_room a.p a.k a.group.now rise (λ i. (c.type_inv.group i).fits) in
    room_behind _ c.put_number-2.ensures.written
    (room_behind _ c.put_number.ensures.written (omega (arith, fits, all)))

pub put-requires : goal.put-requires
put-requires c =
    let a = c.args in
    let (rise, fits) = c.requires in
    let all = line_room a.p a.k a.group.now rise (λ i. (c.type_inv.group i).fits) in
    room_behind _ c.put_entries.ensures.written
    (room_behind _ c.put_number-2.ensures.written
    (room_behind _ c.put_number.ensures.written (omega (arith, fits, all))))

pub returns : goal.returns
returns c =
    let a = c.args in
    let one = c.put_number.ensures in
    let two = c.put_number-2.ensures in
    let three = c.put_entries.ensures in
    let four = c.put.ensures in
    record {
      same = four.same ∙ three.same ∙ two.same ∙ one.same;
      written =
          line_written a.p a.k a.group.now c.requires.0 (λ i. (c.type_inv.group i).fits)
          one.written two.written three.written four.written;
    }
