-- What comes of a range behind `filter`, by a closure that computes the test of the numbers in the range.
use Prim.Native.Nat.{ℕ, zero, suc, ◌+◌, ◌-◌, ◌<◌, ◌≤◌}
use mathlib.Core.Bool.{Bool, true, false, cond}
use mathlib.Core.List.{List, [], ◌∷◌}
use mathlib.Core.Path.{◌≡◌, refl, sym, ap, subst, ◌∙◌}
use native.Mathlib.Omega.{arith}
use denote.Param.Members.{Mut}
use denote.Ref.{Bor}
use lib.ListN.{length, get_or, drop}
use Rattle.std.specs.Fn.{CalledAt}
use Rattle.std.specs.Iterator.{Yields, AlwaysYields}
use Rattle.std.specs.Iterator.Adapters.{filter_source, filter_callee, filter_steps}
use Rattle.std.specs.List.{FoldsTo, filter, range_with_len}
use Rattle.std.specs.declared.iter.Filter.{Filter}
use Rattle.std.specs.declared.ops.Range.{Range}
use Rattle.std.specs.declared.option.Option.TheVariants.{Some, None}
use Rattle.std.proofs.iter.Yields.{nat_range_steps}
use Rattle.std.proofs.lemmas.Iterator.{YieldsList, YieldsList-from_range}

module _ {F : Type 0} (g : Mut F (Bor ℕ × Unit {0}) Bool) (p : ℕ → Bool) {f : F} (from end : ℕ)
    (tests : (x : ℕ) (b : Bool) (q : F) → from ≤ x → x < end → CalledAt g f x b q → (q ≡ f) × (b ≡ p x)) where
  -- the numbers from k on are left, n of them
  record Left (s : Range ℕ) (k n : ℕ) : Type 0 where
    low : from ≤ k
    up : k + n ≡ end
    gives : AlwaysYields nat_range_steps (λ x. x) s (range_with_len k n)

  -- those of them that pass
  abbrev passing : ℕ → ℕ → List ℕ
  passing k n = filter p (range_with_len k n)

  -- the first of them comes next
  next_left : (n k : ℕ) (s u : Range ℕ) (x : ℕ) → Left s k n → nat_range_steps s (Some x) u →
      (i : ℕ) × (n ≡ suc i) × (x ≡ k) × Left u (k + 1) i
  next_left zero k s u x l step = absurd (l.gives x u step)
  next_left (suc i) k s u x l step =
      let (is, gives) = l.gives.1 x u step in
      let low = l.low in
      let up = l.up in
      (i, refl, is, record { low = omega arith; up = omega arith; gives = gives })

  none_left : (n k : ℕ) (s u : Range ℕ) → Left s k n → nat_range_steps s None u → n ≡ 0
  none_left zero k s u l step = refl
  none_left (suc i) k s u l step = absurd (l.gives.0 u step)

  tested : (b : Bool) (k n : ℕ) → b ≡ p k → passing k (suc n) ≡ cond b (k ∷ passing (k + 1) n) (passing (k + 1) n)
  tested b k n e = rw e

  -- those passed over fail
  passed_over : (xs : List ℕ) (n k : ℕ) (s t : Range ℕ) (w q : F) → w ≡ f → Left s k n →
      Yields nat_range_steps s xs t → FoldsTo (λ w x q. CalledAt g w x false q) w xs q →
      (m i : ℕ) × (q ≡ f) × (passing k n ≡ passing m i) × Left t m i
  passed_over [] n k s t w q same l y c = (k, n, sym c ∙ same, refl, subst (λ s. Left s k n) y l)
  passed_over (x ∷ xs) n k s t w q same l (u, step, y) (h, called, c) =
      let (i, more, is, left) = next_left n k s u x l step in
      let low = l.low in
      let up = l.up in
      let now = subst (λ w. CalledAt g w x false h) same called in
      let (kept, fails) = tests x false h (omega arith) (omega arith) now in
      let (m, j, stays, are, rest) = passed_over xs i (k + 1) u t h q kept left y c in
      (m, j, stays, ap (passing k) more ∙ tested false k i (fails ∙ ap p is) ∙ are, rest)

  -- the first that passes
  first_passing : (n k : ℕ) (s j : Filter (Range ℕ) F) (x : ℕ) → filter_callee s ≡ f → Left (filter_source s) k n →
      filter_steps nat_range_steps g s (Some x) j →
      (m i : ℕ) × (filter_callee j ≡ f) × (passing k n ≡ x ∷ passing m i) × Left (filter_source j) m i
  first_passing n k s j x same l (xs, h, (t, y, step), calls, called) =
      let (m, a, stays, are, left) = passed_over xs n k (filter_source s) t (filter_callee s) h same l y calls in
      let (i, more, is, rest) = next_left a m t (filter_source j) x left step in
      let low = left.low in
      let up = left.up in
      let now = subst (λ w. CalledAt g w x true (filter_callee j)) stays called in
      let (kept, passes) = tests x true (filter_callee j) (omega arith) (omega arith) now in
      let first = ap (λ z. z ∷ passing (m + 1) i) (sym is) in
      (m + 1, i, kept, are ∙ ap (passing m) more ∙ tested true m i (passes ∙ ap p is) ∙ first, rest)

  -- none comes where none is left
  none_passing : (n k : ℕ) (s j : Filter (Range ℕ) F) → filter_callee s ≡ f → Left (filter_source s) k n →
      filter_steps nat_range_steps g s None j → passing k n ≡ []
  none_passing n k s j same l (xs, h, (t, y, step), calls, called) =
      let (m, a, stays, are, left) = passed_over xs n k (filter_source s) t (filter_callee s) h same l y calls in
      are ∙ ap (passing m) (none_left a m t (filter_source j) left step)

  gives : (ys : List ℕ) (n k : ℕ) (s : Filter (Range ℕ) F) → filter_callee s ≡ f → Left (filter_source s) k n →
      passing k n ≡ ys → AlwaysYields (filter_steps nat_range_steps g) (λ x. x) s ys
  gives [] n k s same l are =
      λ x j step.
      let (m, i, kept, next, rest) = first_passing n k s j x same l step in
      absurd (let none = ap length (sym next ∙ are) in omega arith)
  gives (y ∷ ys) n k s same l are = (
    λ j step. absurd (let none = ap length (sym are ∙ none_passing n k s j same l step) in omega arith),
    λ x j step.
        let (m, i, kept, next, rest) = first_passing n k s j x same l step in
        let same_list = sym next ∙ are in
        (ap (λ l. get_or l 0 y) same_list, gives ys i m j kept rest (ap (drop 1) same_list)),
  )

  -- the numbers that pass
  pub passing_of_range : {s : Filter (Range ℕ) F} → filter_source s ≡ record { start = from; end = end } →
      from ≤ end → filter_callee s ≡ f →
      YieldsList (filter_steps nat_range_steps g) (λ x. x) s (filter p (range_with_len from (end - from)))
  passing_of_range {s} source some same =
      let range = YieldsList-from_range from end (end - from) source refl in
      let all : Left (filter_source s) from (end - from) =
      record { low = omega arith; up = omega arith; gives = range.runs } in
      record { runs = gives (passing from (end - from)) (end - from) from s same all refl }
