-- One pass over the table A by the rules of a list: what is kept at each place, and what one more policy changes.
use Prim.Native.Nat.{ℕ, ◌+◌, ◌*◌, ◌<◌, ◌≤◌}
use mathlib.Core.Bool.{Bool, true, false, ◌&&◌, ◌||◌, cond}
use mathlib.Core.List.{List}
use mathlib.Core.Logic.{◌⊎◌, inl, inr, ⊎_elim}
use mathlib.Core.Path.{◌≡◌, refl, sym, ◌∙◌}
use native.Mathlib.Omega.{arith}
use borrow.Author.Tests.{eqb-true, eqb-false, eq-eqb, ne_eqb}
use lib.Dec.{eqb}
use lib.ListN.{length, get_or, set, length-set}
use lib.Seq.{get_or-set_same, get_or-set_other}
use Rattle.folds.specs.Below.{any_below}
use Rattle.folds.proofs.Bools.{met_or_not, or_left, or_right, or_last, clash}
use Rattle.folds.proofs.Tests.{any_at, any_more, any_none}
use Rattle.reader.specs.Fields.{policy_role, policy_permission, policy_weight, policy_type, policy_context}
use Rattle.resolution.specs.Resolution.{goes_before}
use Rattle.weights.specs.Weights.{candidate, chosen_weight}
use Rattle.weights.specs.Setting.{taken_up, Placed}
use Rattle.weights.proofs.Foremost.{Foremost, foremost_skip, foremost_kept, foremost_only, foremost_new}
use Rattle.weights.proofs.Choice.{place_eqb, chosen_zero, chosen_weighs}

-- what stands at a place of a list that had y stored at place k, where the test is met
module _ (t : Bool) (v : List ℕ) (k y : ℕ) where
  stored_size : length (cond t (set v k y) v) ≡ length v
  stored_size = by t
    where
      by : (s : Bool) → length (cond s (set v k y) v) ≡ length v
      by true = length-set v k y
      by false = refl

  stored_here : k < length v → get_or (cond t (set v k y) v) k 0 ≡ cond t y (get_or v k 0)
  stored_here l = by t
    where
      by : (s : Bool) → get_or (cond s (set v k y) v) k 0 ≡ cond s y (get_or v k 0)
      by true = get_or-set_same v k y 0 l
      by false = refl

  stored_elsewhere : (i : ℕ) → (i ≡ k → ⊥) → get_or (cond t (set v k y) v) i 0 ≡ get_or v i 0
  stored_elsewhere i other = by t
    where
      by : (s : Bool) → get_or (cond s (set v k y) v) i 0 ≡ get_or v i 0
      by true = get_or-set_other v k i y 0 other
      by false = refl

module _ (rules : List ℕ) (in_force f : ℕ → Bool) (a : List ℕ) where
  -- of role r and permission p: no policy below n counts and the weight is 0, or it is that of the one that does
  abbrev pub KeptAt : ℕ → ℕ → ℕ → ℕ → ℕ → Type 0
  KeptAt r p n number weight =
      ((weight ≡ 0) × (any_below n (candidate in_force f a r p) ≡ false))
      ⊎ (Foremost rules in_force f a r p n number × (weight ≡ policy_weight a number))

  -- so it is at each place
  pub record Keeps (n : ℕ) (kept weights : List ℕ) : Type 0 where
    pub kept_size : length kept ≡ 128
    pub size : length weights ≡ 128
    pub at : (r p : ℕ) → r < 8 → p < 16 → KeptAt r p n (get_or kept (8 * p + r) 0) (get_or weights (8 * p + r) 0)

  pub keeps_none : {kept weights : List ℕ} → length kept ≡ 128 → length weights ≡ 128 →
      ((i : ℕ) → i < 128 → get_or weights i 0 ≡ 0) → Keeps 0 kept weights
  keeps_none kept_size size zero = record {
    kept_size = kept_size;
    size = size;
    at = λ r p l m. inl (zero (8 * p + r) (omega arith), any_none (candidate in_force f a r p));
  }

  -- the one kept at a place with a weight is a policy below n
  pub kept_below : {n k : ℕ} {kept weights : List ℕ} → Keeps n kept weights → (r p : ℕ) → r < 8 → p < 16 →
      k ≡ 8 * p + r → (get_or weights k 0 ≡ 0 → ⊥) → get_or kept k 0 < n
  kept_below keeps r p l m at_k some =
      rw at_k
      (⊎_elim (λ (zero, _). absurd (some (rw at_k zero))) (λ (it, _). it.there) (keeps.at r p l m))

  -- at the end the weights are those of the policies that count
  pub keeps_placed : {n : ℕ} {kept weights : List ℕ} → Keeps n kept weights →
      Placed (chosen_weight rules in_force f a n) weights
  keeps_placed {n} keeps = record {
    place = λ r p l m.
        ⊎_elim
        (λ (zero, none). zero
        ∙ sym (chosen_zero rules in_force f a r p n (any_at (candidate in_force f a r p) n none)))
        (λ (it, is). is ∙ sym (chosen_weighs rules in_force f a r p it))
        (keeps.at r p l m);
  }

  module _ {n : ℕ} where
    -- a policy that is no candidate changes nothing
    same_at : {r p number weight : ℕ} → candidate in_force f a r p n ≡ false → KeptAt r p n number weight →
        KeptAt r p (n + 1) number weight
    same_at {r} {p} off =
        ⊎_elim (λ (zero, none). inl (zero, any_more (candidate in_force f a r p) n none off))
        (λ (it, is). inr (foremost_skip rules in_force f a r p off it, is))

    -- one that is takes the place of the one kept where it is taken up
    taken_at : {r p number weight : ℕ} → ((j : ℕ) → j < n → 1 ≤ policy_weight a j) →
        candidate in_force f a r p n ≡ true → KeptAt r p n number weight → (up : Bool) →
        (eqb weight 0 || goes_before rules a n number) ≡ up →
        KeptAt r p (n + 1) (cond up n number) (cond up (policy_weight a n) weight)
    taken_at {r} {p} {number} {weight} heavy on kept true h = inr (⊎_elim first over kept, refl)
      where
        first : (weight ≡ 0) × (any_below n (candidate in_force f a r p) ≡ false) →
            Foremost rules in_force f a r p (n + 1) n
        first (_, none) = foremost_only rules in_force f a r p on none

        over : Foremost rules in_force f a r p n number × (weight ≡ policy_weight a number) →
            Foremost rules in_force f a r p (n + 1) n
        over (it, is) =
            let some = ne_eqb weight 0 (λ q. omega (arith, heavy number it.there, is)) in
            foremost_new rules in_force f a r p on (or_last h some) it
    taken_at {r} {p} {number} {weight} heavy on kept false h =
        ⊎_elim
        (λ (zero, _). clash (eqb weight 0) (eq-eqb weight 0 zero) (or_left (eqb weight 0) _ h))
        (λ (it, is). inr (foremost_kept rules in_force f a r p (or_right (eqb weight 0) _ h) it, is))
        kept

    pub keeps_same : {kept weights : List ℕ} → ((r p : ℕ) → candidate in_force f a r p n ≡ false) →
        Keeps n kept weights → Keeps (n + 1) kept weights
    keeps_same off keeps = record {
      kept_size = keeps.kept_size;
      size = keeps.size;
      at = λ r p l m. same_at (off r p) (keeps.at r p l m);
    }

    -- policy n, which is active and whose type passes, is taken up at its place k
    module _ (heavy : (j : ℕ) → j < n → 1 ≤ policy_weight a j) (on : in_force (policy_context a n) ≡ true)
        (passes : f (policy_type a n) ≡ true) (role : policy_role a n < 8) {k : ℕ}
        (at_k : k ≡ 8 * policy_permission a n + policy_role a n) (small : k < 128) where
      its_place : (r p : ℕ) → r < 8 → eqb k (8 * p + r) ≡ candidate in_force f a r p n
      its_place r p l =
          rw (at_k, place_eqb (policy_role a n) (policy_permission a n) r p role l, on, passes)
          (by (eqb (policy_role a n) r && eqb (policy_permission a n) p))
        where
          by : (t : Bool) → t ≡ (t && true)
          by true = refl
          by false = refl

      pub keeps_more : {kept weights kept' weights' : List ℕ} →
          kept' ≡ cond (taken_up rules a n kept weights k) (set kept k n) kept →
          weights' ≡ cond (taken_up rules a n kept weights k) (set weights k (policy_weight a n)) weights →
          Keeps n kept weights → Keeps (n + 1) kept' weights'
      keeps_more {kept} {weights} kept_is weights_is keeps =
          rw (kept_is, weights_is)
          (record {
            kept_size = stored_size up kept k n ∙ keeps.kept_size;
            size = stored_size up weights k (policy_weight a n) ∙ keeps.size;
            at = λ r p l m.
                ⊎_elim (λ t. here r p l m (eqb-true k (8 * p + r) t) (sym (its_place r p l) ∙ t))
                (λ t. elsewhere r p l m (λ q. eqb-false k (8 * p + r) t (sym q)) (sym (its_place r p l) ∙ t))
                (met_or_not (eqb k (8 * p + r)));
          })
        where
          up : Bool
          up = taken_up rules a n kept weights k

          After : ℕ → ℕ → Type 0
          After r p =
              KeptAt r p (n + 1) (get_or (cond up (set kept k n) kept) (8 * p + r) 0)
              (get_or (cond up (set weights k (policy_weight a n)) weights) (8 * p + r) 0)

          here : (r p : ℕ) → r < 8 → p < 16 → k ≡ 8 * p + r → candidate in_force f a r p n ≡ true → After r p
          here r p l m at_place is =
              let a' = stored_here up kept k n (rw keeps.kept_size small) in
              let b' = stored_here up weights k (policy_weight a n) (rw keeps.size small) in
              rw (← at_place, a', b') (taken_at heavy is (rw (← at_place) at (keeps.at r p l m)) up refl)

          elsewhere : (r p : ℕ) → r < 8 → p < 16 → (8 * p + r ≡ k → ⊥) → candidate in_force f a r p n ≡ false →
              After r p
          elsewhere r p l m other is =
              rw (
                stored_elsewhere up kept k n (8 * p + r) other,
                stored_elsewhere up weights k (policy_weight a n) (8 * p + r) other,
              )
              (same_at is (keeps.at r p l m))
