-- The sums are made for the levels below n, and no fewer than n entries beside one in front meet the condition.
use Rattle.std.proofs.Common.{◌<◌, ◌≡◌, true, List, ℕ, length, get_or}
use Rattle.multisets.specs.Ranks.{first}
use Rattle.multisets.specs.Rising.{Entry}
use Rattle.multisets.specs.Ends.{NextEnds}
use Rattle.multisets.specs.Levels.{Summed}
use Rattle.folds.specs.Sets.{in_set}
use Rattle.seek.specs.Search.{by_masks}
use Rattle.seek.specs.Led.{MeetsBeside}
use Rattle.seek.proofs.leading.search.Given as goal

abbrev pub invariant-loop-n : goal.invariant-loop-n
invariant-loop-n g l = record {
  users : l.tables.users ≡ l.initial.tables.users;
  added : Summed l.initial.tables.users.d l.weighing l.tables.sums (first l.initial.tables.users.d l.n);
  none : (sets : List ℕ) → NextEnds sets l.initial.tables.users.nexts → (r : ℕ) → r < 8 →
      in_set l.own r ≡ true → 0 < get_or l.weighing.w r 0 → (h : List Entry) → length h < l.n →
      MeetsBeside sets l.weighing.w (by_masks l.rows l.masks.sums l.masks.sets) r h → ⊥;
}
