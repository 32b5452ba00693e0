-- The table C read is the base's, and what the check said of the base holds of it.
use Rattle.reader.proofs.Accepted.{accepted}
use Rattle.weights.proofs.setting_by.Goals as goal

pub holding-contexts-requires : goal.holding-contexts-requires
holding-contexts-requires c = rw c.part.ensures.table (accepted _ c.part.ensures.accepted).contexts
