use Rattle.std.proofs.Common.{◌∙◌, refl, arith}
use Rattle.masks.proofs.Conditions.{all_none, all_next, all_done}
use Rattle.masks.proofs.asked.Striking.strike_clause.Goals as goal

pub loop-j-init : goal.loop-j-init
loop-j-init c = record { same = refl; all = all_none c.args.k.now c.args.i }

pub loop-j-preserved : goal.loop-j-preserved
loop-j-preserved c =
    let so_far = c.loop-j.invariant in
    let turn = c.strike_condition.ensures in
    record {
      same = turn.same ∙ so_far.same;
      all = all_next c.args.k.now c.args.i c.loop-j.j so_far.all (rw so_far.all.sums.size at turn.all);
    }

pub returns : goal.returns
returns c =
    let struck = c.loop-j.invariant in
    record { same = struck.same; all = all_done c.args.k.now c.args.i c.loop-j.j (omega arith) struck.all }
