-- A slash and the role are put behind a blank and the user.
use Rattle.std.proofs.Common.{arith, ◌∙◌}
use Rattle.release_list.proofs.Sizes.{entry_length}
use Rattle.release_list.proofs.Stores.{entry_written, room_behind}
use Rattle.release_list.proofs.text.Page.put_entry.Goals as goal

pub put_number-requires : goal.put_number-requires
put_number-requires c = omega (arith, c.requires, entry_length c.args.user c.args.role)

pub put_number-requires-2 : goal.put_number-requires-2
put_number-requires-2 c =
    let long = entry_length c.args.user c.args.role in
    room_behind _ c.put_number.ensures.written (omega (arith, c.requires, long))

pub returns : goal.returns
returns c =
    let one = c.put_number.ensures in
    let two = c.put_number-2.ensures in
    record {
      same = two.same ∙ one.same;
      written = entry_written c.args.user c.args.role one.written two.written;
    }
