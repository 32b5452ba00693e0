-- The digits are put, but for leading zeros.
use Rattle.release_list.proofs.Decimal.{digits_left}
use Rattle.release_list.proofs.text.Page.put_decimal.Goals as goal

pub put-requires : goal.put-requires
put-requires c = rw (digits_left c.args.n c.from.ensures c.from-2.ensures) at c.requires

pub returns : goal.returns
returns c =
    let w = c.put.ensures.written in
    record { same = c.put.ensures.same; written = rw (digits_left c.args.n c.from.ensures c.from-2.ensures) w }
