-- One level more has its rows and sets.
use Rattle.std.proofs.Common.{ℕ, suc, ◌+◌, ◌≤◌, List, ◌≡◌, arith}
use Rattle.multisets.specs.Ranks.{first}
use Rattle.multisets.specs.Values.{Held, set_at}
use Rattle.multisets.specs.Levels.{Rows}
use Rattle.multisets.specs.Laid.{Laid}
use Rattle.multisets.proofs.levels.LevelTables.shape.Goals as goal

shaped_more : {d known shaped : ℕ} {nexts t t' ends from roles roles' sums : List ℕ} →
    Laid d known shaped nexts t ends from roles sums → shaped ≤ 5 → Rows d (first d (suc shaped)) t' →
    Held d d set_at roles' (first d (suc (suc shaped))) → Laid d known (shaped + 1) nexts t' ends from roles' sums
shaped_more {shaped = shaped} laid few rows held =
    let one : shaped + 1 ≡ suc shaped = omega arith in
    record {
      most = laid.most;
      table = laid.table;
      within = let within = laid.within in omega arith;
      shape = rw one (record { most = omega arith; rows = rows; held = held });
      filled = laid.filled;
      room = laid.room;
    }

pub invariant_of-self : goal.invariant_of-self
invariant_of-self g c =
    let few : c.args.self.now.shaped ≤ 5 = omega arith in
    record { laid = shaped_more c.args.self.now.laid few c.add_rows.ensures c.join_level.ensures }
