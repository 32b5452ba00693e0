-- The ends from a user on are made from those of the user after, role by role.
use Rattle.std.proofs.Common.{ℕ, ◌+◌, ◌-◌, ◌/◌, ◌%◌, ◌≤◌, ◌<◌, List, ◌≡◌, refl, ◌∙◌, length, get_or, arith, rules}
use lib.ListN.{set, length-set}
use Rattle.multisets.specs.Ends.{NextEnd, NextEnds}
use Rattle.multisets.proofs.Nexts.{ends_start, ends_more, next_table}
use Rattle.multisets.proofs.ends.next_ends.Invariants.{Turn}
use Rattle.multisets.proofs.ends.next_ends.Goals as goal

-- one end more, of plain values
turn_more : {sets : List ℕ} {at : ℕ} {ends : List ℕ} {end : ℕ} → length sets ≡ 24 → 0 < at → at ≤ 192 →
    Turn sets at ends →
    (NextEnd sets ((at - 1) / 8 + 1) ((at - 1) % 8) (get_or ends (at - 1 + 8) 0) →
    NextEnd sets ((at - 1) / 8) ((at - 1) % 8) end) →
    Turn sets (at - 1) (set ends (at - 1) end)
turn_more {sets} {at} {ends} {end} all some few t step =
    let more = ends_more sets all ends (at - 1) end t.size (omega arith) in record {
      size = length-set _ _ _ ∙ t.size;
      end = more (λ f k a b p. t.end f k a b (omega arith)) step;
    }

turn_end : {sets : List ℕ} {at : ℕ} {ends : List ℕ} → length sets ≡ 24 → at ≤ 0 → Turn sets at ends →
    NextEnds sets ends
turn_end all last t = record {
  users = all;
  size = t.size;
  end = λ from r a k. t.end from r a k (omega arith);
}

pub loop-at-init : goal.loop-at-init
loop-at-init c =
    let p = c.requires in
    record { size = refl; end = ends_start c.args.sets.now (search rules) c.args.users p.0 p.1 }

pub loop-at-preserved : goal.loop-at-preserved
loop-at-preserved c =
    let few : c.loop-at.at ≤ 192 = omega arith in
    turn_more (search rules) c.loop-at-test.true few c.loop-at.invariant c.end_from.ensures

pub invariant_of-result : goal.invariant_of-result
invariant_of-result c = next_table _ _ (turn_end (search rules) c.loop-at-test.false c.loop-at.invariant)

pub returns : goal.returns
returns c = turn_end (search rules) c.loop-at-test.false c.loop-at.invariant
