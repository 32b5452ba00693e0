-- What a loop knows at its turn i that looks below n for a number of which p holds, or for one of which it doesn't.
use Prim.Native.Nat.{ℕ, ◌+◌, ◌<◌, ◌≤◌}
use mathlib.Core.Bool.{Bool, true, false}
use mathlib.Core.Path.{◌≡◌, sym}
use native.Mathlib.Omega.{arith}
use Rattle.folds.specs.Below.{all_below, any_below}
use Rattle.folds.proofs.Tests.{all_none, all_more, all_stop, any_none, any_more, any_found}

-- p holds of none so far
pub record NoneYet (n : ℕ) (p : ℕ → Bool) (i : ℕ) : Type 0 where
  pub within : i ≤ n
  pub none : any_below i p ≡ false

-- p holds of all so far
pub record AllYet (n : ℕ) (p : ℕ → Bool) (i : ℕ) : Type 0 where
  pub within : i ≤ n
  pub all : all_below i p ≡ true

module _ {n : ℕ} {p : ℕ → Bool} where
  pub none_at_first : NoneYet n p 0
  none_at_first = record { within = omega arith; none = any_none p }

  pub all_at_first : AllYet n p 0
  all_at_first = record { within = omega arith; all = all_none p }

module _ {n : ℕ} {p : ℕ → Bool} {i : ℕ} (yet : NoneYet n p i) where
  pub one_found : i < n → p i ≡ true → true ≡ any_below n p
  one_found l e = sym (any_found p n i l e)

  pub none_further : i < n → p i ≡ false → NoneYet n p (i + 1)
  none_further l e = record { within = omega arith; none = any_more p i yet.none e }

  pub none_found : n ≤ i → false ≡ any_below n p
  none_found l = let e : i ≡ n = omega (arith, yet.within) in sym (rw e at yet.none)

module _ {n : ℕ} {p : ℕ → Bool} {i : ℕ} (yet : AllYet n p i) where
  pub one_fails : i < n → p i ≡ false → false ≡ all_below n p
  one_fails l e = sym (all_stop p n i l e)

  pub all_further : i < n → p i ≡ true → AllYet n p (i + 1)
  all_further l e = record { within = omega arith; all = all_more p i yet.all e }

  pub all_hold : n ≤ i → true ≡ all_below n p
  all_hold l = let e : i ≡ n = omega (arith, yet.within) in sym (rw e at yet.all)
