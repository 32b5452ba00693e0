-- A list lent: which lists 22 refuses, and the refusals 1 to 9 and 22 before what is left.
use Prim.Native.Nat.{ℕ}
use mathlib.Core.Bool.{true, false}
use mathlib.Core.List.{List}
use mathlib.Core.Logic.{◌↔◌, ⊎_elim}
use mathlib.Core.Path.{◌≡◌, sym, ◌∙◌}
use native.Mathlib.Nat.{pos_of_ne-zero}
use native.Mathlib.Omega.{arith}
use borrow.Author.Tests.{eqb-true, eqb-false, ne_eqb, ltb-false, le-ltb}
use lib.Dec.{ltb, eqb}
use lib.ListN.{length, get_or}
use Rattle.folds.proofs.Bools.{or_left, or_right, or_neither, met_or_not, met, refused, unrefused, none_met}
use Rattle.folds.proofs.Bools.{none_refused}
use Rattle.folds.proofs.Tests.{any_at, any_each}
use Rattle.reader.specs.Rules.{refusal_of}
use Rattle.resolution.specs.Resolution.{repeated, rule_refused, Legal, list_refused, lent}

-- 22 refuses all lists but those of 1 to 3 different rules
pub legal_list : (list : List ℕ) → (list_refused list ≡ false) ↔ Legal list
unfolding list_refused repeated
legal_list list = (
  λ h.
      let some = eqb-false (length list) 0 (or_left _ _ h) in
      let rest = or_right (eqb (length list) 0) _ h in
      let none = any_at (rule_refused list) (length list) (or_right (ltb 3 (length list)) _ rest) in
      record {
        some = pos_of_ne-zero some;
        few = ltb-false _ _ (or_left _ _ rest);
        rule = λ k l. ltb-false _ _ (or_right (repeated list k) _ (none k l));
        different = λ j k m l. eqb-false _ _
            (any_at (λ j. eqb (get_or list j 0) (get_or list k 0)) k (or_left _ _ (none k l)) j m);
      },
  λ d.
      let some : length list ≡ 0 → ⊥ = λ q. let l = d.some in omega arith in
      let none = any_each (rule_refused list) (length list) (λ k l.
      or_neither
      (any_each (λ j. eqb (get_or list j 0) (get_or list k 0)) k (λ j m. ne_eqb _ _ (d.different j k m l)))
      (le-ltb 2 (get_or list k 0) (d.rule k l))) in
      or_neither (ne_eqb (length list) 0 some) (or_neither (le-ltb 3 (length list) d.few) none),
)

module _ (list b : List ℕ) where
  -- 1 to 9 of the base come first
  pub lent_base : (refusal_of b ≡ 0 → ⊥) → (left : ℕ) → lent list b left ≡ refusal_of b
  lent_base bad left = sym (refused _ bad)

  -- then 22
  pub lent_22 : refusal_of b ≡ 0 → list_refused list ≡ true → (left : ℕ) → lent list b left ≡ 22
  lent_22 ok t left = unrefused ok ∙ sym (met left t)

  -- then what is left
  pub lent_left : refusal_of b ≡ 0 → list_refused list ≡ false → (left : ℕ) → lent list b left ≡ left
  lent_left ok legal left = rw (ok, legal)

  -- where none of them applies, the base is accepted and the list isn't refused
  pub lent_none : lent list b 0 ≡ 0 → (refusal_of b ≡ 0) × (list_refused list ≡ false)
  lent_none h =
      let (ok, past9) = none_refused (refusal_of b) _ h in
      (ok, (none_met (list_refused list) 21 past9).0)

  -- where one applies, it goes before what follows
  pub lent_refused : (lent list b 0 ≡ 0 → ⊥) → (left : ℕ) → lent list b 0 ≡ lent list b left
  lent_refused some left =
      ⊎_elim (λ e. good_base (eqb-true _ _ e)) (λ e. bad_base (eqb-false _ _ e)) (met_or_not (eqb (refusal_of b) 0))
    where
      bad_base : (refusal_of b ≡ 0 → ⊥) → lent list b 0 ≡ lent list b left
      bad_base bad = lent_base bad 0 ∙ sym (lent_base bad left)

      good_base : refusal_of b ≡ 0 → lent list b 0 ≡ lent list b left
      good_base ok =
          ⊎_elim (λ t. lent_22 ok t 0 ∙ sym (lent_22 ok t left))
          (λ t. absurd (some (lent_left ok t 0))) (met_or_not (list_refused list))
