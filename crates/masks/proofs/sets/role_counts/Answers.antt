use Rattle.std.proofs.Common.{arith}
use Rattle.masks.proofs.SetMasks.{role_num_le}
use Rattle.masks.proofs.sets.role_counts.Goals as goal

pub overflow_cast-count : goal.overflow_cast-count
overflow_cast-count c =
    let few = role_num_le c.loop-v.v in
    let e = c.role_num.ensures in record { fits = omega arith }
