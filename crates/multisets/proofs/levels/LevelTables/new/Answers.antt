-- No row and no set of roles is made yet but the set of no role, which is 0 as all are at first.
use Rattle.std.proofs.Common.{ℕ, ◌<◌, ◌≤◌, ◌*◌, ◌≡◌, sym, ap, ◌∙◌, length, replicate, arith, rules}
use lib.ListN.{set}
use native.Mathlib.Nat.{le_refl}
use Rattle.std.proofs.lemmas.List.{get_or-replicate, length-replicate, set-get_or}
use Rattle.multisets.specs.Ranks.{first}
use Rattle.multisets.specs.Values.{set_at}
use Rattle.multisets.specs.Levels.{Shaped}
use Rattle.multisets.proofs.Places.{first_0}
use Rattle.multisets.proofs.Begin.{one_room, begun, blank_all}
use Rattle.multisets.proofs.Holding.{held_none}
use Rattle.multisets.proofs.Sets.{set_none_is}
use Rattle.multisets.proofs.levels.LevelTables.new.Goals as goal

long : (d : ℕ) {places : ℕ} → first d 7 ≤ places → first d 7 ≤ length (replicate {A = ℕ} places 0)
long d {places} room = rw (length-replicate {A = ℕ} places 0) room

shaped : {d rows places : ℕ} → 8 * first d 5 ≤ rows → first d 7 ≤ places →
    Shaped d 0 (replicate rows 0) (replicate places 0)
shaped {d} {rows} {places} few room = record {
  most = omega arith;
  rows = rw (first_0 d) (record {
    room = rw (length-replicate {A = ℕ} rows 0) few;
    row = λ n m few some h. absurd (omega arith);
  });
  held = rw unwritten at (held_none d d set_at (replicate places 0) 0 (le_refl d) (long d room) (sym set_none_is));
}
  where
    unwritten : set {A = ℕ} (replicate places 0) 0 0 ≡ replicate places 0
    unwritten =
        let zero = get_or-replicate {A = ℕ} places 0 0 0 (omega (arith, one_room d)) in
        ap (λ (x : ℕ). set (replicate places 0) 0 x) (sym zero) ∙ set-get_or (replicate places 0) 0 0

pub bounds-ends-0 : goal.bounds-ends-0
bounds-ends-0 g c = let some = one_room c.args.d in let room : 0 < g.row.PLACES = omega arith in search rules

pub invariant_of-result-2 : goal.invariant_of-result-2
invariant_of-result-2 g c =
    let (most, rows, places) = c.requires in
    let table = rw c.nexts.view_is at c.nexts.invariant in
    let room = long c.args.d places in
    record { laid = begun most table (shaped rows places) (blank_all c.args.d places) room room }
