-- The decision's answers, by the first refusal that applies: 1 to 9, 22 of a list lent, 10 and 11, then what the group
-- gets.
use Prim.Native.Nat.{ℕ, ◌<◌}
use mathlib.Core.Bool.{Bool, true, false, not, cond}
use mathlib.Core.List.{List}
use mathlib.Core.Logic.{◌↔◌, ⊎_elim}
use mathlib.Core.Path.{◌≡◌, refl, sym, ◌∙◌}
use borrow.Author.Tests.{eqb-true, eqb-false, ltb-true, not-false}
use lib.Dec.{ltb, eqb}
use Rattle.folds.proofs.Bools.{met_or_not, refused, unrefused, none_met, none_refused}
use Rattle.reader.specs.Tables.{permission_count}
use Rattle.reader.specs.Rules.{refusal_of}
use Rattle.weights.specs.declared.Context.{Context}
use Rattle.weights.specs.Contexts.{out_of_range}
use Rattle.resolution.specs.Resolution.{list_refused, lent}
use Rattle.resolution.proofs.Lending.{lent_left, lent_refused}
use Rattle.decision.specs.Groups.{members_refusal, some_out_of_date, present}
use Rattle.decision.specs.Decision.{group_decision, asking, decision_by, decision_lent}
use Rattle.decision.specs.Granting.{GrantedBy}
use Rattle.decision.proofs.Granting.{granted_by}

module _ (b : List ℕ) (at : Context) (p : ℕ) where
  -- 10 or 11, where one applies, goes before what follows
  pub asking_first : (asking b at p 0 ≡ 0 → ⊥) → (left : ℕ) → asking b at p 0 ≡ asking b at p left
  asking_first some left = by (not (ltb p (permission_count b))) (out_of_range at) some
    where
      by : (t u : Bool) → (cond {A = ℕ} t 10 (cond u 11 0) ≡ 0 → ⊥) →
          cond {A = ℕ} t 10 (cond u 11 0) ≡ cond t 10 (cond u 11 left)
      by true u h = refl
      by false true h = refl
      by false false h = absurd (h refl)

  -- where none applies, the permission is there and what follows is left
  pub asking_there : asking b at p 0 ≡ 0 → p < permission_count b
  asking_there h = ltb-true _ _ (not-false _ (none_met (not (ltb p (permission_count b))) 9 h).0)

  pub asking_left : asking b at p 0 ≡ 0 → (left : ℕ) → asking b at p left ≡ left
  asking_left h left =
      let (there, past10) = none_met (not (ltb p (permission_count b))) 9 h in
      let (in_range, _) = none_met (out_of_range at) 10 past10 in
      rw (there, in_range)

  module _ (rules g : List ℕ) {r : ℕ} where
    pub base_refused : r ≡ refusal_of b → (r ≡ 0 → ⊥) → r ≡ decision_by rules b at p g
    unfolding decision_by
    base_refused is some = is ∙ refused _ (λ e. some (is ∙ e))

    pub asking_refused : refusal_of b ≡ 0 → r ≡ asking b at p 0 → (r ≡ 0 → ⊥) → r ≡ decision_by rules b at p g
    unfolding decision_by
    asking_refused ok is some = is ∙ asking_first (λ e. some (is ∙ e)) _ ∙ sym (unrefused ok)

    -- by the context and the rules that the setting holds
    pub group_decided : {held : Context} {kept : List ℕ} → refusal_of b ≡ 0 → asking b at p 0 ≡ 0 → held ≡ at →
        kept ≡ rules → r ≡ group_decision kept b held p g → r ≡ decision_by rules b at p g
    unfolding decision_by
    group_decided ok passed same listed is =
        is ∙ rw (same, listed) (sym (unrefused ok ∙ asking_left passed (group_decision rules b at p g)))

-- 12 to 15 and 24
module _ (U R : ℕ) (may : ℕ → ℕ → Bool) (out : ℕ → Bool) (g : List ℕ) where
  -- where one applies, it goes before what follows
  pub present_first : (present U R may out g 0 ≡ 0 → ⊥) → (left : ℕ) →
      present U R may out g 0 ≡ present U R may out g left
  present_first some left =
      ⊎_elim (λ e. among (eqb-true _ _ e)) (λ e. apart (eqb-false _ _ e))
      (met_or_not (eqb (members_refusal U R may g) 0))
    where
      apart : (members_refusal U R may g ≡ 0 → ⊥) → present U R may out g 0 ≡ present U R may out g left
      apart bad = sym (refused _ bad) ∙ refused _ bad

      late : members_refusal U R may g ≡ 0 → some_out_of_date out g ≡ true →
          present U R may out g 0 ≡ present U R may out g left
      late none t = rw (none, t)

      on_time : members_refusal U R may g ≡ 0 → some_out_of_date out g ≡ false →
          present U R may out g 0 ≡ present U R may out g left
      on_time none t = absurd (some (rw (none, t)))

      among : members_refusal U R may g ≡ 0 → present U R may out g 0 ≡ present U R may out g left
      among none = ⊎_elim (late none) (on_time none) (met_or_not (some_out_of_date out g))

  -- where none applies, what follows is left
  pub present_left : present U R may out g 0 ≡ 0 → (left : ℕ) → present U R may out g left ≡ left
  present_left h left =
      let (members, past15) = none_refused (members_refusal U R may g) _ h in
      let (on, _) = none_met (some_out_of_date out g) 23 past15 in
      rw (members, on)

-- with a list lent
module _ (b : List ℕ) (at : Context) (p : ℕ) (list g : List ℕ) where
  pub list_refused_lem : {r : ℕ} → r ≡ lent list b 0 → (r ≡ 0 → ⊥) → r ≡ decision_lent list b at p g
  unfolding decision_lent
  list_refused_lem is some = is ∙ lent_refused list b (λ e. some (is ∙ e)) (decision_by list b at p g)

  pub list_decided : {r : ℕ} → refusal_of b ≡ 0 → list_refused list ≡ false → r ≡ decision_by list b at p g →
      r ≡ decision_lent list b at p g
  unfolding decision_lent
  list_decided ok legal is = is ∙ sym (lent_left list b ok legal (decision_by list b at p g))

  -- the law of granting with a list lent: the decider grants exactly these groups, of every list of numbers
  pub granted_lent : (decision_lent list b at p g ≡ 0) ↔
      ((refusal_of b ≡ 0) × (list_refused list ≡ false) × (p < permission_count b) × (out_of_range at ≡ false)
      × GrantedBy list b at p g)
  unfolding decision_lent
  granted_lent = (
    λ h.
        let (_, past9) = none_refused (refusal_of b) _ h in
        let (legal, past22) = none_met (list_refused list) 21 past9 in
        let (ok, there, in_range, granted) = (granted_by list b at p g).0 past22 in
        (ok, legal, there, in_range, granted),
    λ (ok, legal, there, in_range, granted).
        lent_left list b ok legal (decision_by list b at p g)
        ∙ (granted_by list b at p g).1 (ok, there, in_range, granted),
  )
