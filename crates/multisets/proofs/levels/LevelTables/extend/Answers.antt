-- One level more has its ends.
use Rattle.std.proofs.Common.{ℕ, suc, ◌+◌, ◌*◌, ◌≤◌, ◌<◌, List, ◌≡◌, arith, rules}
use Rattle.multisets.specs.Ranks.{first}
use Rattle.multisets.specs.Ends.{Filled}
use Rattle.multisets.specs.Levels.{Rows}
use Rattle.multisets.specs.Laid.{Laid}
use Rattle.multisets.proofs.Places.{first_le}
use Rattle.multisets.proofs.Rows.{rows_before}
use Rattle.multisets.proofs.levels.LevelTables.extend.Goals as goal

module _ {d known shaped : ℕ} {nexts t ends from roles sums : List ℕ}
    (laid : Laid d known shaped nexts t ends from roles sums) (behind : known < shaped) where
  growing : (known ≤ 5) × Rows d (first d (suc known)) t × Filled d nexts (8 * first d known) ends from
  growing =
      let most = laid.shape.most in
      (omega arith, rows_before laid.shape.rows (first_le d (suc known) shaped behind), laid.filled)

  known_more : {ends' from' : List ℕ} → Filled d nexts (8 * first d (suc known)) ends' from' →
      Laid d (known + 1) shaped nexts t ends' from' roles sums
  known_more filled =
      let one : known + 1 ≡ suc known = omega arith in
      record {
        most = laid.most;
        table = laid.table;
        within = omega arith;
        shape = laid.shape;
        filled = rw one filled;
        room = laid.room;
      }

pub grow-requires : goal.grow-requires
grow-requires g c = (search rules, growing c.shape.new.self.laid c.shape.ensures.0)

pub invariant_of-self : goal.invariant_of-self
invariant_of-self g c = record { laid = known_more c.shape.new.self.laid c.shape.ensures.0 c.grow.ensures }
