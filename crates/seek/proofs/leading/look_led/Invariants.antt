-- No entries beside a role below this one meet the row.
use Rattle.std.proofs.Common.{ℕ, ◌<◌, true, ◌≡◌, List, length}
use Rattle.multisets.specs.Rising.{Entry}
use Rattle.multisets.specs.Ends.{NextEnds}
use Rattle.seek.specs.Search.{Meets}
use Rattle.seek.specs.Led.{may_lead, met_led}
use Rattle.seek.proofs.leading.look_led.Given as goal

abbrev pub invariant-loop-role : goal.invariant-loop-role
invariant-loop-role g l = record {
  none : (sets : List ℕ) → NextEnds sets l.tables.users.nexts → (r : ℕ) → r < l.role →
      may_lead l.own l.weighing.w r ≡ true → (h : List Entry) → length h ≡ l.n →
      Meets sets l.weighing.w 0 (met_led l.weighing.w r l.row l.masks.sums l.masks.sets) h → ⊥;
}
