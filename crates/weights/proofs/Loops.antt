-- Steps of the loops that stood where chains stand now; docs/PORT.md names some of them.
use Prim.Native.Nat.{ℕ, ◌+◌, ◌*◌, ◌/◌, ◌^◌, ◌<◌, ◌≤◌}
use mathlib.Core.Bool.{Bool, true, false, ◌&&◌, cond}
use mathlib.Core.Path.{◌≡◌, refl, sym, ap, ap₂, ◌∙◌}
use mathlib.Core.Logic.{⊎_elim}
use mathlib.Core.List.{List, []}
use native.Mathlib.Nat.{not-suc-le-zero}
use native.Mathlib.Omega.{arith}
use borrow.Author.Tests.{eqb-true, eqb-false, ne_eqb, lt-ltb, le-ltb}
use lib.ListN.{length, get_or, set}
use lib.Seq.{get_or-set_same, get_or-set_other}
use lib.Dec.{ltb, eqb}
use mir.Val.{Fits}
use mir.Syntax.{w64}
use Rattle.folds.specs.Below.{any_below, first_below}
use Rattle.folds.proofs.Bools.{met_or_not}
use Rattle.folds.proofs.Tests.{first_lt, first_more, first_none}
use Rattle.reader.specs.Fields.{policy_role, policy_permission, policy_weight, policy_type, policy_context}
use Rattle.weights.specs.Weights.{candidate, chosen_weight}
use Rattle.weights.specs.Setting.{first_of, Placed}
use Rattle.weights.proofs.Choice.{chosen_zero, place_eqb, off_context}
use Rattle.weights.proofs.Foremost.{chosen_first}

-- the places of a policy's bytes, of plain numbers
module _ {n i : ℕ} (more : i < n / 8) where
  pub inside : 8 * i < n
  inside = omega arith

  pub inside_at : (d : ℕ) → d < 8 → 8 * i + d < n
  inside_at d h = omega arith

  pub fits_at_lem : n < 2 ^ 64 → (d : ℕ) → d < 8 → Fits w64 (8 * i + d)
  fits_at_lem fits d h = omega arith

-- the weight of place i among n policies, or 0
abbrev weight_at : List ℕ → ℕ → ℕ → ℕ
weight_at a n i = cond (ltb i n) (policy_weight a i) 0

module _ (in_force f : ℕ → Bool) (a : List ℕ) (r p : ℕ) where
  abbrev counts : ℕ → Bool
  counts = candidate in_force f a r p

  -- without rules one more policy counts where it is active and none before it was
  pub chosen_more : (i : ℕ) → ((k : ℕ) → k < i → 1 ≤ policy_weight a k) →
      chosen_weight [] in_force f a (i + 1) r p
      ≡ first_of (chosen_weight [] in_force f a i r p) (cond (candidate in_force f a r p i) (policy_weight a i) 0)
  unfolding chosen_weight
  chosen_more i pos =
      rw (chosen_first in_force f a (i + 1) r p, chosen_first in_force f a i r p, first_more counts i)
      (by (any_below i counts) (counts i) refl)
    where
      by : (x y : Bool) → any_below i counts ≡ x →
          weight_at a (i + 1) (cond x (first_below i counts) (cond y i (i + 1)))
          ≡ first_of (weight_at a i (first_below i counts)) (cond y (policy_weight a i) 0)
      by true y e =
          let l : first_below i counts < i = first_lt counts i e in
          let m : first_below i counts < i + 1 = omega arith in
          let w : policy_weight a (first_below i counts) ≡ 0 → ⊥ = λ z. omega (arith, pos _ l) in
          rw (lt-ltb _ _ l, lt-ltb _ _ m, ne_eqb (policy_weight a (first_below i counts)) 0 w)
      by false true e =
          rw (first_none counts i e, le-ltb i i (omega arith), lt-ltb i (i + 1) (omega arith))
      by false false e =
          rw (first_none counts i e, le-ltb i i (omega arith), le-ltb (i + 1) (i + 1) (omega arith))

-- keeping what is there, or 0
or_zero : (x : ℕ) → x ≡ cond (eqb x 0) 0 x
or_zero x = ⊎_elim (λ e. rw e (eqb-true _ _ e)) (λ e. rw e) (met_or_not (eqb x 0))

-- the weights v with x at place k, unless there is one already
after : (v : List ℕ) (k x : ℕ) → k < length v → (i : ℕ) →
    get_or (set v k (first_of (get_or v k 0) x)) i 0 ≡ first_of (get_or v i 0) (cond (eqb k i) x 0)
after v k x l i =
    ⊎_elim (λ e. let q : k ≡ i = eqb-true _ _ e in rw (e, ← q) (get_or-set_same v k _ 0 l))
    (λ e. rw e (get_or-set_other v k i _ 0 (λ q. eqb-false k i e (sym q)) ∙ or_zero (get_or v i 0)))
    (met_or_not (eqb k i))

-- a weight that is given where two tests are met, and a third is
joined : (z t : Bool) (w : ℕ) → cond z (cond t w 0) 0 ≡ cond (z && (t && true)) w 0
joined true true w = refl
joined true false w = refl
joined false t w = refl

module _ (in_force f : ℕ → Bool) (a : List ℕ) where
  -- before the first policy nothing counts
  pub placed_none : (v : List ℕ) → ((i : ℕ) → i < 128 → get_or v i 0 ≡ 0) → Placed (chosen_weight [] in_force f a 0) v
  placed_none v z =
      record {
        place = λ r p l m.
            z (8 * p + r) (omega arith) ∙ sym (chosen_zero [] in_force f a r p 0 (λ i k. absurd (not-suc-le-zero k)));
      }

  module _ (i : ℕ) (pos : (k : ℕ) → k < i → 1 ≤ policy_weight a k) where
    -- a policy that is not active changes nothing
    pub placed_same : {v : List ℕ} → in_force (policy_context a i) ≡ false →
        Placed (chosen_weight [] in_force f a i) v → Placed (chosen_weight [] in_force f a (i + 1)) v
    placed_same off was = record { place = λ r p l m. was.place r p l m ∙ same r p }
      where
        same : (r p : ℕ) → chosen_weight [] in_force f a i r p ≡ chosen_weight [] in_force f a (i + 1) r p
        same r p =
            or_zero (chosen_weight [] in_force f a i r p)
            ∙ sym (chosen_more in_force f a r p i pos ∙ rw (off_context in_force f a i off r p))

    -- an active policy counts at its place k, where its type passes and none counted before
    pub placed_more : {v : List ℕ} {k x y : ℕ} → in_force (policy_context a i) ≡ true → policy_role a i < 8 →
        k ≡ 8 * policy_permission a i + policy_role a i → k < length v →
        x ≡ cond (f (policy_type a i)) (policy_weight a i) 0 → y ≡ first_of (get_or v k 0) x →
        Placed (chosen_weight [] in_force f a i) v → Placed (chosen_weight [] in_force f a (i + 1)) (set v k y)
    placed_more {v} {k} {x} {y} on role at_k l at_x at_y was =
        record { place = λ r p m n. step r p m (was.place r p m n) }
      where
        given : (r p : ℕ) → r < 8 →
            cond (eqb k (8 * p + r)) x 0 ≡ cond (candidate in_force f a r p i) (policy_weight a i) 0
        given r p m =
            rw (at_x, at_k, place_eqb (policy_role a i) (policy_permission a i) r p role m, on)
            (joined (eqb (policy_role a i) r && eqb (policy_permission a i) p) (f (policy_type a i))
            (policy_weight a i))

        step : (r p : ℕ) → r < 8 → get_or v (8 * p + r) 0 ≡ chosen_weight [] in_force f a i r p →
            get_or (set v k y) (8 * p + r) 0 ≡ chosen_weight [] in_force f a (i + 1) r p
        step r p m here =
            ap (λ (z : ℕ). get_or (set v k z) (8 * p + r) 0) at_y
            ∙ after v k x l (8 * p + r)
            ∙ ap₂ (λ (kept z : ℕ). first_of kept z) here (given r p m)
            ∙ sym (chosen_more in_force f a r p i pos)
