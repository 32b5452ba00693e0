-- Steps of the loops that stood where chains stand now; docs/PORT.md names them.
use Prim.Native.Nat.{ℕ}
use mathlib.Core.Path.{◌≡◌, sym, ap, ◌∙◌}
use mathlib.Core.List.{List, ◌++◌, append-nil}
use lib.ListN.{length, take, drop}
use lib.Seq.{take-length, drop-length}

-- a list stored into another of the same length, from the front: all stored
pub copy_done : (n : ℕ) (s d : List ℕ) → length s ≡ n → length d ≡ n → take n s ++ drop n d ≡ s
copy_done n s d e f =
    let none = ap (λ (k : ℕ). drop k d) (e ∙ sym f) ∙ drop-length d in
    rw (← e, take-length) (ap (λ (l : List ℕ). s ++ l) none ∙ append-nil s)
