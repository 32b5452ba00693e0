-- Laws of sets beside each other: sets without members, and a member added to one.
use Prim.Native.Nat.{ℕ, ◌^◌, ◌<◌}
use mathlib.Core.Bool.{false, ◌&&◌, ◌||◌, or-false}
use mathlib.Core.Path.{◌≡◌, sym}
use mathlib.Core.Logic.{⊎_elim}
use mathlib.Core.List.{List}
use borrow.Author.Tests.{eqb-true, eqb-false}
use lib.Bits.{bit_or}
use lib.Dec.{eqb}
use lib.ListN.{length, get_or, set, replicate}
use lib.Seq.{get_or-set_same, get_or-set_other}
use Rattle.folds.specs.Sets.{in_set}
use Rattle.folds.proofs.Bools.{met_or_not}
use Rattle.folds.proofs.Lists.{zero_at}
use Rattle.folds.proofs.Sets.{in_none, in_added}

-- sets of which all are 0 are empty
pub empty_sets : (n s t : ℕ) → in_set (get_or (replicate {A = ℕ} n 0) s 0) t ≡ false
empty_sets n s t = rw (zero_at n s) (in_none t)

-- q is added to the set of p
pub set_added : (w : List ℕ) (i v p q : ℕ) → i ≡ p → v ≡ 2 ^ q → p < length w → (s t : ℕ) →
    in_set (get_or (set w i (bit_or (get_or w i 0) v)) s 0) t ≡ (in_set (get_or w s 0) t || (eqb p s && eqb q t))
set_added w i v p q at one l s t =
    rw (at, one)
    (⊎_elim
    (λ e. let d : p ≡ s = eqb-true _ _ e in
    rw (e, ← d, get_or-set_same w p (bit_or (get_or w p 0) (2 ^ q)) 0 l) (in_added (get_or w p 0) q t))
    (λ e. let d : s ≡ p → ⊥ = λ q. eqb-false p s e (sym q) in
    rw (get_or-set_other w p s (bit_or (get_or w p 0) (2 ^ q)) 0 d, e) (sym (or-false (in_set (get_or w s 0) t))))
    (met_or_not (eqb p s)))
