-- The number is put behind the words.
use Rattle.std.proofs.Common.{arith, length-append, ◌∙◌}
use Rattle.release_list.specs.Text.{decimal}
use Rattle.release_list.proofs.Stores.{joined, room_behind}
use Rattle.release_list.proofs.text.Page.put_number.Goals as goal

pub put_decimal-requires : goal.put_decimal-requires
put_decimal-requires c =
    let both = length-append c.args.words.now (decimal c.args.n) in
    room_behind _ c.put.ensures.written (omega (arith, c.requires, both))

pub returns : goal.returns
returns c =
    let one = c.put.ensures in
    let two = c.put_decimal.ensures in
    record { same = two.same ∙ one.same; written = joined one.written two.written }
