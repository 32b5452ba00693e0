-- A group's bytes, written from the last entry to the first.
use Prim.Native.Nat.{ℕ, zero, suc, ◌+◌, ◌-◌, ◌*◌, ◌/◌, ◌%◌, ◌<◌, ◌≤◌}
use mathlib.Core.Path.{◌≡◌, refl, sym, ap, ◌∙◌}
use mathlib.Core.List.{List, [], ◌∷◌, ◌++◌}
use native.Mathlib.Omega.{arith}
use lib.ListN.{length, get_or, set, drop, length-append}
use lib.Seq.{sets, sets-eq, set_comm}
use Rattle.folds.proofs.Lists.{sets-append}
use Rattle.multisets.specs.Standing.{bytes_back}
use Rattle.multisets.specs.Ends.{back_of, Way}

-- a store behind a run of stores may come first
sets-set : (xs l : List ℕ) (i j v : ℕ) → i + length xs ≤ j → set (sets l i xs) j v ≡ sets (set l j v) i xs
sets-set [] l i j v h = refl
sets-set (x ∷ xs) l i j v h =
    sets-set xs (set l i x) (suc i) j v (omega arith)
    ∙ ap (λ (k : List ℕ). sets k (suc i) xs) (set_comm l i j x v (λ e. omega arith))

module _ (ends from : List ℕ) where
  -- the entries behind the first of the way back
  abbrev rest : ℕ → ℕ → List ℕ
  rest n x = bytes_back (back_of ends from n (get_or from x 0 / 8))

  pub bytes_length : (n x : ℕ) → length (bytes_back (back_of ends from n x)) ≡ 2 * n
  bytes_length zero x = refl
  bytes_length (suc n) x = length-append (rest n x) _ ∙ rw (bytes_length n (get_or from x 0 / 8)) (omega arith)

  -- what stands, with the entries that are left written into it
  abbrev pub whole : List ℕ → ℕ → ℕ → List ℕ
  whole out left x = sets out 0 (bytes_back (back_of ends from left x))

  -- what stands once the last entry that is left is written
  abbrev pub written : List ℕ → ℕ → ℕ → List ℕ
  written out n x = set (set out (2 * n) (get_or ends x 0 - 1)) (2 * n + 1) (get_or from x 0 % 8)

  whole_less : (out : List ℕ) (n x : ℕ) → whole (written out n x) n (get_or from x 0 / 8) ≡ whole out (suc n) x
  whole_less out n x =
      let b = rest n x in
      let u = get_or ends x 0 - 1 in
      let r = get_or from x 0 % 8 in
      let l : 0 + length b ≡ 2 * n = (let k = bytes_length n (get_or from x 0 / 8) in omega arith) in
      let e : 2 * n + 1 ≡ suc (2 * n) = omega arith in
      let user = sets-set b out 0 (2 * n) u (omega arith) in
      let role = sets-set b (set out (2 * n) u) 0 (suc (2 * n)) r (omega arith) in
      sym (sets-append out 0 b (u ∷ r ∷ []) ∙ rw (l, e) (ap (λ (k : List ℕ). set k (suc (2 * n)) r) user ∙ role))

  module _ (out : List ℕ) (left x : ℕ) (some : 0 < left) where
    pub turn_whole : whole (written out (left - 1) x) (left - 1) (get_or from x 0 / 8) ≡ whole out left x
    turn_whole =
        let e : suc (left - 1) ≡ left = omega arith in
        whole_less out (left - 1) x ∙ ap (λ (k : ℕ). whole out k x) e

    pub turn_way : (room : ℕ) → Way room ends from left x →
        (x < room) × (0 < get_or ends x 0) × Way room ends from (left - 1) (get_or from x 0 / 8)
    turn_way room w = let e : left ≡ suc (left - 1) = omega arith in rw e at w

  pub whole_is : (out : List ℕ) (n x : ℕ) → 2 * n ≤ length out →
      whole out n x ≡ bytes_back (back_of ends from n x) ++ drop (2 * n) out
  whole_is out n x h =
      let b = bytes_back (back_of ends from n x) in
      let l = bytes_length n x in
      let e : 0 + length b ≡ 2 * n = omega arith in
      sets-eq b out 0 (omega arith) ∙ ap (λ (k : ℕ). b ++ drop k out) e
