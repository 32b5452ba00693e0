-- Numbers written one behind the other.
use Prim.Native.Nat.{ℕ, ◌+◌, ◌<◌}
use mathlib.Core.Path.{◌≡◌, refl, ◌∙◌}
use mathlib.Core.List.{List}
use mathlib.Core.Logic.{⊎_elim}
use native.Mathlib.Omega.{arith}
use native.Mathlib.Nat.{zero-add}
use borrow.Author.Tests.{eqb-true, eqb-false}
use lib.Dec.{eqb}
use lib.ListN.{length, get_or, set, length-set}
use lib.Seq.{get_or-set_same, get_or-set_other}
use Rattle.folds.proofs.Bools.{met_or_not}
use Rattle.multisets.specs.Values.{Written}

-- at first no number is written
pub written_none : (g : ℕ → ℕ) (to : ℕ) (t : List ℕ) → Written g to 0 t t
written_none g to t = record { size = refl; here = λ j l. absurd (omega arith); before = λ i l. refl }

-- one number more
pub written_more : {g : ℕ → ℕ} {to j : ℕ} {t t' : List ℕ} {x : ℕ} → Written g to j t t' → to + j < length t' → x ≡ g j →
    Written g to (j + 1) t (set t' (to + j) x)
written_more {g} {to} {j} {t} {t'} {x} w l is = record {
  size = length-set t' (to + j) x ∙ w.size;
  here = λ i h. ⊎_elim
      (λ b. let e : i ≡ j = eqb-true i j b in rw (e, get_or-set_same t' (to + j) x 0 l) is)
      (λ b.
      let ne = eqb-false i j b in
      rw (get_or-set_other t' (to + j) (to + i) x 0 (λ q. ne (omega arith))) (w.here i (omega (arith, ne))))
      (met_or_not (eqb i j));
  before = λ i h. get_or-set_other t' (to + j) i x 0 (λ q. omega arith) ∙ w.before i h;
}

-- from the start of a list on
module _ {g : ℕ → ℕ} {j : ℕ} {t t' : List ℕ} (w : Written g 0 j t t') where
  -- one number more
  pub next_written : {x : ℕ} → j < length t' → x ≡ g j → Written g 0 (j + 1) t (set t' j x)
  next_written {x} l is = rw (zero-add j) at (written_more w (rw (zero-add j) l) is)

  -- each is written
  pub is_written : (i : ℕ) → i < j → get_or t' i 0 ≡ g i
  is_written i l = rw (zero-add i) at (w.here i l)
