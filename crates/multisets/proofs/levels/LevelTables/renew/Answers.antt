-- The ends that are known are cleared; of the others none is reached.
use Rattle.std.proofs.Common.{ℕ, ◌+◌, ◌<◌, ◌≤◌, ◌≡◌, List, ◌++◌, length, replicate, drop, arith}
use lib.ListN.{set}
use Rattle.multisets.specs.Ranks.{first}
use Rattle.multisets.specs.Ends.{NextTable}
use Rattle.multisets.specs.Laid.{Laid}
use Rattle.multisets.proofs.Places.{first_le}
use Rattle.multisets.proofs.Begin.{one_room, begun, blank_known}
use Rattle.multisets.proofs.levels.LevelTables.renew.Goals as goal

module _ {d known shaped : ℕ} {nexts t ends from roles sums : List ℕ}
    (laid : Laid d known shaped nexts t ends from roles sums) where
  few : known ≤ 6
  few = let within = laid.within in let most = laid.shape.most in omega arith

  -- up to a level's start there are ends
  asked : {k past : ℕ} → past ≡ first d k → k ≤ 7 → (past ≤ length ends) × (0 < length ends)
  asked {k} is most =
      (omega (arith, is, laid.filled.room, first_le d k 7 most), omega (arith, one_room d, laid.filled.room))

  begun_anew : {past : ℕ} {nexts' ends' : List ℕ} → NextTable nexts' → past ≡ first d (known + 1) →
      ends' ≡ set (replicate past 255 ++ drop past ends) 0 0 → Laid d 0 shaped nexts' t ends' from roles sums
  begun_anew table past_is is =
      let blank = blank_known laid.most few laid.filled past_is in
      rw is (begun laid.most table laid.shape blank laid.filled.places laid.room)

pub clear-requires : goal.clear-requires
clear-requires g c =
    let laid = c.args.self.now.laid in
    asked laid c.first_in-past.ensures.0 (omega (arith, few laid))

pub invariant_of-self-2 : goal.invariant_of-self-2
invariant_of-self-2 g c =
    let table = rw c.nexts.view_is at c.nexts.invariant in
    record { laid = begun_anew c.args.self.now.laid table c.first_in-past.ensures.0 c.clear.ensures }
