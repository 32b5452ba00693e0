-- The sums are made for the levels below n, and no fewer than n entries meet the condition.
use Rattle.std.proofs.Common.{◌<◌, ◌≡◌, List, ℕ, length}
use Rattle.multisets.specs.Ranks.{first}
use Rattle.multisets.specs.Rising.{Entry}
use Rattle.multisets.specs.Ends.{NextEnds}
use Rattle.multisets.specs.Levels.{Summed}
use Rattle.seek.specs.Search.{by_masks, Meets}
use Rattle.seek.proofs.search.Given as goal

abbrev pub invariant-loop-n : goal.invariant-loop-n
invariant-loop-n g l = record {
  users : l.tables.users ≡ l.initial.tables.users;
  added : Summed l.initial.tables.users.d l.weighing l.tables.sums (first l.initial.tables.users.d l.n);
  none : (sets : List ℕ) → NextEnds sets l.initial.tables.users.nexts → (h : List Entry) → length h < l.n →
      Meets sets l.weighing.w l.weighing.placed (by_masks l.rows l.masks.sums l.masks.sets (length h)) h → ⊥;
}
