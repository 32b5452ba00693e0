use lib.ListN.{length-set}
use Rattle.std.proofs.Common.{◌≡◌, ◌-◌, length, arith}
use Rattle.weights.proofs.Steps.{juniors_more}
use Rattle.weights.proofs.seniority.juniors.Goals as goal

pub loop-s-preserved : goal.loop-s-preserved
loop-s-preserved c =
    let h = c.loop-s.invariant in
    let n : length c.loop-s.known ≡ 8 = h.size in
    record {
      size = rw length-set n;
      role =
          juniors_more _ _ (c.loop-s.s - 1) _ (omega arith) n c.requires (λ r j l m. h.role r j (omega arith) m)
          c.juniors_of.ensures;
    }
