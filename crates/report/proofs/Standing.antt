-- Parts of 13 bytes one behind the other: what stands at part p.
use Prim.Native.Nat.{ℕ, zero, suc, ◌+◌, ◌*◌, ◌-◌, ◌<◌, ◌≤◌}
use mathlib.Core.Path.{◌≡◌, refl, sym, ap, ◌∙◌}
use mathlib.Core.Logic.{⊎_elim}
use mathlib.Core.List.{List, ◌++◌, append_assoc}
use native.Mathlib.Nat.{add-zero, eq-or-lt_of_le, le_of_suc-le-suc, not-suc-le-zero}
use native.Mathlib.Omega.{arith}
use lib.ListN.{length, get_or, take, drop, replicate, length-append, length-replicate}
use lib.Seq.{take_at, drop_at, drop-drop, get_or-drop}
use Rattle.folds.specs.Below.{join_below}
use Rattle.report.specs.Report.{part_bytes}
use Rattle.report.specs.Demand.{number_for, group_for}

-- a part has 13 bytes
pub part_length : (k : ℕ) (g : List ℕ) → k ≤ 6 → length g ≡ 2 * k → length (part_bytes k g) ≡ 13
part_length k g few e = rw (length-append, length-replicate, e) (omega arith)

module _ (f : ℕ → List ℕ) where
  -- the first n parts
  pub parts_length : (n : ℕ) → ((p : ℕ) → p < n → length (f p) ≡ 13) → length (join_below n f) ≡ 13 * n
  unfolding join_below
  parts_length zero h = refl
  parts_length (suc n) h =
      rw (length-append, parts_length n (λ p l. h p (omega arith)), h n (omega arith)) (omega arith)

  -- from place 13 * p on stands part p
  part_at : (n : ℕ) (rest : List ℕ) → ((p : ℕ) → p < n → length (f p) ≡ 13) → (p : ℕ) → p < n →
      (tail : List ℕ) × (drop (13 * p) (join_below n f ++ rest) ≡ f p ++ tail)
  unfolding join_below
  part_at zero rest h p l = elim (not-suc-le-zero l) [ ]
  part_at (suc n) rest h p l =
      rw (append_assoc (join_below n f) (f n) rest)
      (⊎_elim
      (λ q. (rest, rw q (drop_at (join_below n f) (f n ++ rest) (13 * n) (parts_length n (λ p l. h p (omega arith))))))
      (λ m. part_at n (f n ++ rest) (λ p l. h p (omega arith)) p m)
      (eq-or-lt_of_le (le_of_suc-le-suc l)))

-- what the buffer carries for permission p, where part p holds the number k and the group g
module _ (l : List ℕ) (p k : ℕ) (g tail : List ℕ) (here : drop (13 * p) l ≡ part_bytes k g ++ tail) where
  pub number_is : number_for l p ≡ k
  number_is =
      ap (λ (i : ℕ). get_or l i 0) (sym (add-zero (13 * p))) ∙ sym (get_or-drop (13 * p) l 0 0)
      ∙ ap (λ (x : List ℕ). get_or x 0 0) here

  pub group_is : length g ≡ 2 * k → group_for l p ≡ g
  group_is e =
      let fill : List ℕ = replicate (12 - 2 * k) 255 in
      ap (λ (n : ℕ). take (2 * n) (drop (13 * p + 1) l)) number_is
      ∙ ap (take (2 * k)) (sym (drop-drop 1 (13 * p) l) ∙ ap (drop 1) here ∙ append_assoc g fill tail)
      ∙ take_at g (fill ++ tail) (2 * k) e

-- what the buffer carries for each permission
module _ (number : ℕ → ℕ) (group : ℕ → List ℕ) (n : ℕ) (rest : List ℕ)
    (few : (p : ℕ) → p < n → number p ≤ 6) (size : (p : ℕ) → p < n → length (group p) ≡ 2 * number p) where
  abbrev buffer : List ℕ
  buffer = join_below n (λ p. part_bytes (number p) (group p)) ++ rest

  -- from place 13 * p on stands the part of p
  stands : (p : ℕ) → p < n → (tail : List ℕ) × (drop (13 * p) buffer ≡ part_bytes (number p) (group p) ++ tail)
  stands =
      part_at (λ p. part_bytes (number p) (group p)) n rest
      (λ p l. part_length (number p) (group p) (few p l) (size p l))

  pub number_at_lem : (p : ℕ) → p < n → number_for buffer p ≡ number p
  number_at_lem p l =
      let (tail, here) = stands p l in
      number_is buffer p (number p) (group p) tail here

  pub group_at : (p : ℕ) → p < n → group_for buffer p ≡ group p
  group_at p l =
      let (tail, here) = stands p l in
      group_is buffer p (number p) (group p) tail here (size p l)
