-- The users of a base that passed 1 to 3 are at most 24.
use Rattle.std.proofs.Common.{◌/◌, ap, length}
use Rattle.reader.proofs.Frame.{users_le}
use Rattle.reader.proofs.trailer.Frame.user_count.Goals as goal

pub returns : goal.returns
returns c =
    let is = ap (λ t. length t / 8) c.part.ensures.table in
    (is, rw is (users_le _ c.part.ensures.framed))
