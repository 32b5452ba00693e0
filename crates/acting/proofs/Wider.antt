-- Each group granted by holding alone is granted by acting, so a smallest number above 0 stays above 0 and doesn't
-- rise.
use Prim.Native.Nat.{ℕ, ◌<◌, ◌≤◌}
use mathlib.Core.Bool.{true}
use mathlib.Core.Path.{◌≡◌, refl, sym, ap, ◌∙◌}
use mathlib.Core.List.{List, []}
use borrow.Author.Tests.{eqb-true, eq-eqb, lt-ltb}
use lib.Dec.{eqb}
use Rattle.reader.specs.Tables.{hierarchy, clauses, table_of, record_count}
use Rattle.weights.specs.declared.Context.{Context}
use Rattle.weights.specs.Acting.{may_act}
use Rattle.weights.proofs.MayAct.{held_acting, acting_flat}
use Rattle.decision.specs.Conditions.{permission_holds}
use Rattle.decision.specs.Decision.{group_decision, decision_by, decision_of}
use Rattle.decision.proofs.Granting.{head_passed, wider_granted}
use Rattle.decision.proofs.Agree.{same_refusal}
use Rattle.report.specs.Smallest.{smallest_by, smallest_of}
use Rattle.report.proofs.Least.{OfBytes, of_decision, smallest_shown, smallest_least, smallest_is, smallest_wider}
use Rattle.acting.specs.Readings.{decision_where, decision_by_holding, smallest_by_holding}

module _ (b : List ℕ) (at : Context) (p : ℕ) where
  -- the decision is the one by acting
  pub decision_by_acting : (g : List ℕ) → decision_where (may_act b) b at p g ≡ decision_of b at p g
  unfolding decision_by group_decision
  decision_by_acting g = refl

  -- each group granted by holding alone is granted
  pub held_granted : (g : List ℕ) → decision_by_holding b at p g ≡ 0 → decision_of b at p g ≡ 0
  unfolding decision_by group_decision
  held_granted g h =
      let (ok, there, in_range, left) = head_passed b at p _ h in
      let condition = permission_holds (table_of b clauses) p in
      rw (ok, lt-ltb _ _ there, in_range) (wider_granted _ _ _ _ _ _ condition g (held_acting b) left)

  held_too : (g : List ℕ) → eqb (decision_by_holding b at p g) 0 ≡ true → eqb (decision_of b at p g) 0 ≡ true
  held_too g h = eq-eqb _ _ (held_granted g (eqb-true _ _ h))

  -- so a smallest number above 0 stays above 0 and doesn't rise
  pub held_smallest : 0 < smallest_by_holding b at p →
      (0 < smallest_of b at p) × (smallest_of b at p ≤ smallest_by_holding b at p)
  unfolding smallest_by_holding smallest_by
  held_smallest = smallest_wider _ _ (of_decision [] b at p) held_too

  -- holding alone grants groups of bytes, as the decision does
  pub of_held : OfBytes (λ g. eqb (decision_by_holding b at p g) 0)
  of_held =
      let d = of_decision [] b at p in
      record { whole = λ t h. d.whole t (held_too t h); byte = λ t h. d.byte t (held_too t h) }

  -- without hierarchy nothing changed
  pub flat_decision : record_count hierarchy (table_of b hierarchy) ≡ 0 → (g : List ℕ) →
      decision_of b at p g ≡ decision_by_holding b at p g
  unfolding decision_by group_decision
  flat_decision flat g =
      rw (same_refusal _ _ _ _ _ _ _ _ _ _ _ _ refl refl (acting_flat b flat) (λ u l. refl) (λ r. refl)
      (λ n s t. refl) g)

  -- and every number is as it was
  pub flat_smallest : record_count hierarchy (table_of b hierarchy) ≡ 0 →
      smallest_of b at p ≡ smallest_by_holding b at p
  unfolding smallest_by smallest_by_holding
  flat_smallest flat =
      sym (smallest_is _ (of_decision [] b at p) _
      (λ above.
      let (t, h, n) = smallest_shown _ above in
      (t, held_too t h, n))
      (λ t h. smallest_least _ of_held t (ap (λ (x : ℕ). eqb x 0) (sym (flat_decision flat t)) ∙ h)))
