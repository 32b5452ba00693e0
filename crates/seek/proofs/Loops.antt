-- Steps of the loops that stood where chains stand now; docs/PORT.md names them.
use Prim.Native.Nat.{ℕ, ◌≤◌}
use mathlib.Core.List.{List}
use native.Mathlib.Omega.{arith}
use Rattle.seek.specs.Search.{Tables, SomeMet}

-- no places meet nothing
pub some_none : {front : ℕ} {sums roles by_sum by_set : List ℕ} {x : ℕ} → SomeMet front sums roles by_sum by_set x 0 0
some_none = record { has = λ i b l. absurd (omega arith) }

-- fewer places have room where more have
pub fewer : {from room k : ℕ} {ends sums roles by_sum by_set : List ℕ} →
    Tables from room ends sums roles by_sum by_set → k ≤ room →
    Tables from k ends sums roles by_sum by_set
fewer t h =
    let a = t.ends_room in
    let b = t.sums_room in
    let c = t.roles_room in
    record {
      ends_room = omega arith;
      sums_room = omega arith;
      roles_room = omega arith;
      sum_masks = λ x low high. t.sum_masks x low (omega arith);
      set_masks = t.set_masks;
    }
