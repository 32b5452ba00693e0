-- What a loop knows at its turn n that changes each element x of a list, at place i, to f i x: the first n are changed.
use Prim.Native.Nat.{ℕ, ◌<◌, ◌≤◌}
use mathlib.Core.Path.{◌≡◌}
use mathlib.Core.List.{List}
use lib.ListN.{length, get_or}

pub record Changed (f : ℕ → ℕ → ℕ) (n : ℕ) (was now : List ℕ) : Type 0 where
  pub size : length now ≡ length was
  pub done : (i : ℕ) → i < n → get_or now i 0 ≡ f i (get_or was i 0)
  pub rest : (i : ℕ) → n ≤ i → get_or now i 0 ≡ get_or was i 0
