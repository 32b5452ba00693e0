-- `asked_for` meets its contract: a register that isn't refused names only who and what is there.
use Rattle.reader.proofs.Frame.{permissions_le, users_le}
use Rattle.reader.proofs.Accepted.{accepted_frame}
use Rattle.vouch.proofs.Gathering.{named}
use Rattle.vouch.proofs.parts.asked_for.Goals as goal

pub users_vouching-requires : goal.users_vouching-requires
users_vouching-requires c =
    let lent = c.requires.1 in
    let frame = accepted_frame _ lent.accepted in
    named _ _ _ (users_le _ frame) (permissions_le _ frame) lent.register_fine
