-- What an array holds whose elements a closure makes.
use Prim.Native.Nat.{ℕ, zero, suc, ◌+◌, ◌<◌, ◌≤◌}
use mathlib.Core.Path.{◌≡◌, sym, subst}
use mathlib.Core.Logic.{⊎_elim}
use mathlib.Core.List.{List}
use native.Mathlib.Nat.{eq-or-lt_of_le}
use native.Mathlib.Omega.{arith}
use denote.Param.Members.{Mut}
use lib.ListN.{get_or}
use Rattle.std.specs.Array.{IsFromFnResult, IsFromFnResultFrom}
use Rattle.std.specs.Fn.{Called}

module _ {F B : Type 0} {g : Mut F (ℕ × Unit {0}) B} {f : F} (P : ℕ → B → Type 0) (ys : List B) where
  each_from : (i n : ℕ) → ((k : ℕ) (y : B) (q : F) → k < i + n → Called g f (k, tt) y q → (q ≡ f) × P k y) →
      IsFromFnResultFrom g f ys i n → (k : ℕ) (d : B) → i ≤ k → k < i + n → P k (get_or ys k d)
  each_from i zero h made k d l m = absurd (omega arith)
  each_from i (suc n) h (q, y, is, called, made) k d l m =
      let (same, has) = h i y q (omega arith) called in
      let others = subst (λ (p : F). IsFromFnResultFrom g p ys (i + 1) n) same made in
      ⊎_elim (λ e. subst (λ j. P j (get_or ys j d)) e (subst (λ (v : B). P i v) (sym (is.1 d)) has))
      (λ b. each_from (i + 1) n (λ j z p b. h j z p (omega arith)) others k d (omega arith) (omega arith))
      (eq-or-lt_of_le l)

  -- an array whose elements a closure makes: what each call gives has P
  pub made_each : (n : ℕ) → IsFromFnResult g f ys n →
      ((k : ℕ) (y : B) (q : F) → k < n → Called g f (k, tt) y q → (q ≡ f) × P k y) →
      (k : ℕ) (d : B) → k < n → P k (get_or ys k d)
  made_each n made h k d l =
      each_from 0 n (λ j y q b. h j y q (omega arith)) made.each k d (omega arith) (omega arith)
