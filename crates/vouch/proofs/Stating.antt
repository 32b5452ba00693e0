-- A register lent with a threshold: refusals 1 to 9, 25 and 27 before what is left; and the vouching decision's answers
-- by the first refusal that applies.
use Prim.Native.Nat.{ℕ}
use mathlib.Core.Bool.{Bool, true, false, cond}
use mathlib.Core.List.{List}
use mathlib.Core.Logic.{⊎_elim}
use mathlib.Core.Path.{◌≡◌, refl, sym, ◌∙◌}
use borrow.Author.Tests.{eqb-true, eqb-false}
use lib.Dec.{eqb}
use Rattle.folds.proofs.Bools.{met_or_not, refused, unrefused, none_met, none_refused}
use Rattle.reader.specs.Tables.{user_count, permission_count}
use Rattle.reader.specs.Rules.{refusal_of}
use Rattle.weights.specs.declared.Context.{Context}
use Rattle.decision.specs.Decision.{asking}
use Rattle.decision.proofs.Heads.{asking_first, asking_left}
use Rattle.vouch.specs.Register.{register_refused, threshold_refused}
use Rattle.vouch.specs.Decision.{stated, Lent, group_vouched, decision_vouched}

-- 25 or 27, where one applies, goes before what follows
later : (t u : Bool) → (cond {A = ℕ} t 25 (cond u 27 0) ≡ 0 → ⊥) → (left : ℕ) →
    cond {A = ℕ} t 25 (cond u 27 0) ≡ cond t 25 (cond u 27 left)
later true u h left = refl
later false true h left = refl
later false false h left = absurd (h refl)

module _ (register : List ℕ) (threshold : ℕ) (b : List ℕ) where
  -- where none applies, and so does what follows
  pub stated_zero : (left : ℕ) → stated register threshold b left ≡ 0 → Lent register threshold b × (left ≡ 0)
  stated_zero left h =
      let (ok, past9) = none_refused (refusal_of b) _ h in
      let (fine, past25) = none_met (register_refused (user_count b) (permission_count b) register) 24 past9 in
      let (scale, past27) = none_met (threshold_refused threshold) 26 past25 in
      (record { accepted = ok; register_fine = fine; threshold_fine = scale }, past27)

  pub stated_none : stated register threshold b 0 ≡ 0 → Lent register threshold b
  stated_none h = (stated_zero 0 h).0

  -- then what follows is left
  pub stated_left : Lent register threshold b → (left : ℕ) → stated register threshold b left ≡ left
  stated_left d left = rw (d.accepted, d.register_fine, d.threshold_fine)

  -- where one applies, it goes before what follows
  pub stated_first : (stated register threshold b 0 ≡ 0 → ⊥) → (left : ℕ) →
      stated register threshold b 0 ≡ stated register threshold b left
  stated_first some left =
      ⊎_elim (λ e. good_base (eqb-true _ _ e)) (λ e. bad_base (eqb-false _ _ e)) (met_or_not (eqb (refusal_of b) 0))
    where
      bad_base : (refusal_of b ≡ 0 → ⊥) → stated register threshold b 0 ≡ stated register threshold b left
      bad_base bad = sym (refused _ bad) ∙ refused _ bad

      good_base : refusal_of b ≡ 0 → stated register threshold b 0 ≡ stated register threshold b left
      good_base ok =
          unrefused ok
          ∙ later (register_refused (user_count b) (permission_count b) register) (threshold_refused threshold)
          (λ e. some (unrefused ok ∙ e)) left
          ∙ sym (unrefused ok)

  module _ (at : Context) (p : ℕ) (g : List ℕ) {r : ℕ} where
    pub head_refused : r ≡ stated register threshold b 0 → (r ≡ 0 → ⊥) →
        r ≡ decision_vouched register threshold b at p g
    unfolding decision_vouched
    head_refused is some = is ∙ stated_first (λ e. some (is ∙ e)) _

    pub asking_refused : Lent register threshold b → r ≡ asking b at p 0 → (r ≡ 0 → ⊥) →
        r ≡ decision_vouched register threshold b at p g
    unfolding decision_vouched
    asking_refused d is some = is ∙ asking_first b at p (λ e. some (is ∙ e)) _ ∙ sym (stated_left d _)

    pub group_decided : {held : Context} → Lent register threshold b → asking b at p 0 ≡ 0 → held ≡ at →
        r ≡ group_vouched register threshold b held p g → r ≡ decision_vouched register threshold b at p g
    unfolding decision_vouched
    group_decided d passed same is =
        is ∙ rw same (sym (stated_left d _ ∙ asking_left b at p passed (group_vouched register threshold b at p g)))
