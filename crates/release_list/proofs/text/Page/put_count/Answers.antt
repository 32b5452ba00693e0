-- The line's end is put behind the words and the number.
use Rattle.std.proofs.Common.{arith, length-append, ◌∙◌}
use Rattle.release_list.specs.Text.{decimal}
use Rattle.release_list.proofs.Sizes.{count_length}
use Rattle.release_list.proofs.Stores.{count_written, room_behind}
use Rattle.release_list.proofs.text.Page.put_count.Goals as goal

pub put_number-requires : goal.put_number-requires
put_number-requires c =
    let long = count_length c.args.words.now c.args.n in
    omega (arith, c.requires, long, length-append c.args.words.now (decimal c.args.n))

pub put-requires : goal.put-requires
put-requires c =
    let long = count_length c.args.words.now c.args.n in
    let both = length-append c.args.words.now (decimal c.args.n) in
    room_behind _ c.put_number.ensures.written (omega (arith, c.requires, long, both))

pub returns : goal.returns
returns c =
    let one = c.put_number.ensures in
    let two = c.put.ensures in
    record {
      same = two.same ∙ one.same;
      written = count_written c.args.words.now c.args.n one.written two.written;
    }
