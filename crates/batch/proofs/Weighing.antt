-- The weights of the permissions asked for.
use Prim.Native.Nat.{ℕ, ◌+◌, ◌-◌, ◌*◌, ◌<◌, ◌≤◌}
use mathlib.Core.Bool.{true, false}
use mathlib.Core.Path.{◌≡◌, refl, ◌∙◌}
use mathlib.Core.Logic.{⊎_elim}
use mathlib.Core.List.{List, []}
use native.Mathlib.Numerals.{add-one}
use native.Mathlib.Omega.{arith}
use borrow.Author.Tests.{ltb-true, ltb-false}
use borrow.Rule.Slice.PartMut.{put_mid}
use lib.Dec.{ltb}
use lib.ListN.{length, get_or, replicate}
use Rattle.std.proofs.Common.{rules}
use Rattle.std.proofs.lemmas.List.{places}
use Rattle.folds.proofs.Bools.{met_or_not, clash}
use Rattle.folds.proofs.Lists.{zero_at}
use Rattle.folds.proofs.Tests.{split}
use Rattle.folds.specs.Sets.{in_set}
use Rattle.reader.specs.Rules.{refusal_of}
use Rattle.reader.specs.Tables.{permission_count}
use Rattle.reader.proofs.Accepted.{accepted_frame}
use Rattle.reader.proofs.Frame.{permissions_le}
use Rattle.weights.specs.declared.Context.{Context}
use Rattle.weights.specs.Weights.{weight}
use Rattle.weights.specs.Setting.{AreWeights}
use Rattle.weights.proofs.Weigh.{weights_le}

-- the roles' weights for each permission of the set below n
pub record WeightsBelow (n : ℕ) (b : List ℕ) (at : Context) (asked : ℕ) (weights : List ℕ) : Type 0 where
  pub size : length weights ≡ 128
  pub each : (p r : ℕ) → p < n → in_set asked p ≡ true → r < 8 → get_or weights (8 * p + r) 0 ≡ weight [] b at r p
  pub light : (i : ℕ) → i < 128 → get_or weights i 0 ≤ 40

-- a list with eight others written over its items from a on
module _ (xs ys : List ℕ) (a : ℕ) where
  abbrev put : List ℕ
  put = put_mid a (a + 8 - a) xs ys

  put_length : length ys ≡ 8 → a + 8 ≤ length xs → length put ≡ length xs
  put_length e h = search (rules, places)

  put_at : (i : ℕ) → length ys ≡ 8 → a + 8 ≤ length xs → i < 8 → get_or put (a + i) 0 ≡ get_or ys i 0
  put_at i e h l = search (rules, places)

  put_before : (i : ℕ) → a + 8 ≤ length xs → i < a → get_or put i 0 ≡ get_or xs i 0
  put_before i h l = search (rules, places)

  put_behind : (i : ℕ) → length ys ≡ 8 → a + 8 ≤ length xs → a + 8 ≤ i → get_or put i 0 ≡ get_or xs i 0
  put_behind i e h l = search (rules, places)

-- weights by the rules of no list
plain : {rules b w : List ℕ} {at : Context} {p : ℕ} → rules ≡ [] → AreWeights rules b at p w → AreWeights [] b at p w
plain none are = rw none at are

pub few_permissions : (b : List ℕ) → refusal_of b ≡ 0 → permission_count b ≤ 16
few_permissions b ok = permissions_le b (accepted_frame b ok)

module _ (b : List ℕ) (at : Context) (asked : ℕ) where
  pub none_weighed : WeightsBelow 0 b at asked (replicate 128 0)
  none_weighed = record {
    size = refl;
    each = λ p r l i m. absurd (omega arith);
    light = λ i l. let e = zero_at 128 i in omega (arith, e);
  }

  -- one further: the next one's are put in their place where it is in the set
  module _ {n : ℕ} {weights : List ℕ} (h : WeightsBelow n b at asked weights) where
    pub not_weighed : in_set asked n ≡ false → WeightsBelow (n + 1) b at asked weights
    not_weighed out = record {
      size = h.size;
      each = λ p r l i m. split (rw add-one at l) (λ e. clash (in_set asked p) i (rw e out)) (λ k. h.each p r k i m);
      light = h.light;
    }

    module _ {rules w ys : List ℕ} {wide : ℕ} (ok : refusal_of b ≡ 0) (few : n < 16) (none : rules ≡ [])
        (are : AreWeights rules b at n w) (size : length w ≡ 8) (same : ys ≡ w) (wide_is : wide ≡ n) where
      abbrev now : List ℕ
      now = put_mid (8 * n) (8 * n + 8 - 8 * n) weights w

      here : AreWeights [] b at n w
      here = plain none are

      fits : 8 * n + 8 ≤ length weights
      fits = let s = h.size in omega arith

      each : (p r : ℕ) → p < n + 1 → in_set asked p ≡ true → r < 8 → get_or now (8 * p + r) 0 ≡ weight [] b at r p
      each p r l i m =
          split (rw add-one at l) (λ e. rw e (put_at weights w (8 * n) r size fits m ∙ here.role r m))
          (λ k. put_before weights w (8 * n) (8 * p + r) fits (omega arith) ∙ h.each p r k i m)

      light : (i : ℕ) → i < 128 → get_or now i 0 ≤ 40
      light i l =
          ⊎_elim (λ t. rw (put_before weights w (8 * n) i fits (ltb-true i (8 * n) t)) (h.light i l))
          (λ t. ⊎_elim
          (λ u. let k = ltb-true i (8 * n + 8) u in
          let f = ltb-false i (8 * n) t in
          let e : 8 * n + (i - 8 * n) ≡ i = omega arith in
          let is : get_or now i 0 ≡ get_or w (i - 8 * n) 0 =
          rw e at (put_at weights w (8 * n) (i - 8 * n) size fits (omega arith)) in
          rw is (weights_le b ok [] at n w here (i - 8 * n) (omega arith)))
          (λ u. rw (put_behind weights w (8 * n) i size fits (ltb-false i (8 * n + 8) u)) (h.light i l))
          (met_or_not (ltb i (8 * n + 8))))
          (met_or_not (ltb i (8 * n)))

      pub one_weighed : WeightsBelow (n + 1) b at asked (put_mid (8 * wide) (8 * wide + 8 - 8 * wide) weights ys)
      one_weighed =
          rw (same, wide_is)
          (record { size = put_length weights w (8 * n) size fits ∙ h.size; each = each; light = light })
