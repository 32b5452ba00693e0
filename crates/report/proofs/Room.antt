-- Which tables have room for how many roles.
use Prim.Native.Nat.{ℕ, ◌*◌, ◌≤◌}
use mathlib.Core.Path.{◌≡◌, refl}
use native.Mathlib.Omega.{arith}
use Rattle.folds.specs.Below.{sum_below}
use Rattle.multisets.specs.Ranks.{starts, first}
use Rattle.multisets.proofs.Places.{first_mono}

-- there is room for d roles where there is for n
room : (n : ℕ) {d rows places : ℕ} → 8 * first n 5 ≡ rows → first n 7 ≡ places → d ≤ n →
    (8 * first d 5 ≤ rows) × (first d 7 ≤ places)
room n {d} rows places few = (omega (arith, first_mono d n 5 few), omega (arith, first_mono d n 7 few))

module _ {d : ℕ} where
  pub room_for_3 : d ≤ 3 → (8 * first d 5 ≤ 280) × (first d 7 ≤ 84)
  unfolding first starts sum_below
  room_for_3 = room 3 refl refl

  pub room_for_5 : d ≤ 5 → (8 * first d 5 ≤ 1008) × (first d 7 ≤ 462)
  unfolding first starts sum_below
  room_for_5 = room 5 refl refl

  pub room_for_8 : d ≤ 8 → (8 * first d 5 ≤ 3960) × (first d 7 ≤ 3003)
  unfolding first starts sum_below
  room_for_8 = room 8 refl refl
