-- What a loop knows at its turn i that gathers the set of the numbers below n of which p holds.
use Prim.Native.Nat.{ℕ, ◌+◌, ◌^◌, ◌<◌, ◌≤◌}
use mathlib.Core.Bool.{Bool, true, false, ◌&&◌}
use mathlib.Core.Path.{◌≡◌, sym, ◌∙◌}
use native.Mathlib.Omega.{arith}
use lib.Bits.{bit_or, or_zero_r}
use lib.Dec.{ltb}
use Rattle.folds.specs.Sets.{in_set, set_below}
use Rattle.folds.proofs.Sets.{set_none, set_or, in_set_lem, in_below}

pub record Gathered (n : ℕ) (p : ℕ → Bool) (i set : ℕ) : Type 0 where
  pub is : set ≡ set_below i p
  pub within : i ≤ n

pub gathered_none : {n : ℕ} {p : ℕ → Bool} → Gathered n p 0 0
gathered_none {n} {p} = record { within = omega arith; is = sym (set_none p) }

module _ {n : ℕ} {p : ℕ → Bool} {i set : ℕ} (yet : Gathered n p i set) where
  pub one_added : {r : Bool} {bit now : ℕ} → i < n → r ≡ p i → r ≡ true → bit ≡ 2 ^ i → now ≡ bit_or set bit →
      Gathered n p (i + 1) now
  one_added l e h one n = record { within = omega arith; is = n ∙ rw (set_or p i, ← e, h, yet.is, one) }

  pub one_passed : {r : Bool} {now : ℕ} → i < n → r ≡ p i → r ≡ false → now ≡ set → Gathered n p (i + 1) now
  one_passed l e h n = record { within = omega arith; is = n ∙ rw (set_or p i, ← e, h, or_zero_r) yet.is }

  -- at the end the set has exactly the numbers of which p holds
  pub gathered_set : n ≤ i → set ≡ set_below n p
  gathered_set l = let e : i ≡ n = omega (arith, yet.within) in rw e at yet.is

  pub gathered_all : n ≤ i → (r : ℕ) → r < n → in_set set r ≡ p r
  gathered_all l r h = rw (gathered_set l) (in_set_lem p n r h)

  pub gathered_below : n ≤ i → (r : ℕ) → in_set set r ≡ (ltb r n && p r)
  gathered_below l r = rw (gathered_set l) (in_below p n r)
