-- What a look at a group tells of refusals 16 and 17, for a permission asked for.
use Prim.Native.Nat.{ℕ, ◌*◌, ◌+◌, ◌<◌}
use mathlib.Core.Bool.{Bool, true, ◌&&◌, cond}
use mathlib.Core.List.{List, []}
use mathlib.Core.Path.{◌≡◌, refl, sym, ◌∙◌}
use borrow.Author.Tests.{eqb-true, eq-eqb}
use lib.Dec.{eqb}
use lib.ListN.{get_or}
use Rattle.folds.specs.Below.{any_below}
use Rattle.folds.specs.Sets.{in_set}
use Rattle.folds.proofs.Bools.{and_left, and_right, and_both, same_test}
use Rattle.folds.proofs.Sets.{in_set_lem}
use Rattle.folds.proofs.Tests.{any_found, any_some}
use Rattle.reader.specs.Tables.{clauses, permission_count, table_of}
use Rattle.weights.specs.declared.Context.{Context}
use Rattle.weights.specs.Setting.{AreWeights}
use Rattle.weights.specs.Weights.{weight}
use Rattle.decision.specs.Conditions.{permission_holds}
use Rattle.decision.specs.Groups.{entry_count, entry_role, acted_in, sum_of, roles_of, some_weightless}
use Rattle.decision.specs.Decision.{weighed_of}
use Rattle.decision.proofs.Granting.{sum_weights}
use Rattle.batch.specs.Asked.{WeightsOf}

-- some role of the set of a group's roles has weight 0 exactly where an entry's role has
module _ (weigh : ℕ → ℕ) (g : List ℕ) (low : (i : ℕ) → i < entry_count g → entry_role g i < 8) where
  abbrev light_role : ℕ → Bool
  light_role r = in_set (roles_of g) r && eqb (weigh r) 0

  abbrev light_entry : ℕ → Bool
  light_entry i = eqb (weigh (entry_role g i)) 0

  of_entry : (r : ℕ) → r < 8 → light_role r ≡ true → any_below (entry_count g) light_entry ≡ true
  unfolding roles_of acted_in
  of_entry r l h =
      let acted = sym (in_set_lem (acted_in g) 8 r l) ∙ and_left (in_set (roles_of g) r) (eqb (weigh r) 0) h in
      let (i, under, is) = any_some (λ i. eqb (entry_role g i) r) (entry_count g) acted in
      any_found light_entry (entry_count g) i under
      (rw (eqb-true (entry_role g i) r is) (and_right (in_set (roles_of g) r) (eqb (weigh r) 0) h))

  of_role : (i : ℕ) → i < entry_count g → light_entry i ≡ true → any_below 8 light_role ≡ true
  unfolding roles_of acted_in
  of_role i l h =
      let r = entry_role g i in
      let acted = any_found (λ j. eqb (entry_role g j) r) (entry_count g) i l (eq-eqb r r refl) in
      any_found light_role 8 r (low i l) (and_both (in_set_lem (acted_in g) 8 r (low i l) ∙ acted) h)

  pub light_roles : any_below 8 light_role ≡ some_weightless weigh g
  unfolding some_weightless
  light_roles =
      same_test (any_below 8 light_role) (any_below (entry_count g) light_entry)
      (λ h. let (r, l, is) = any_some light_role 8 h in of_entry r l is)
      (λ h. let (i, l, is) = any_some light_entry (entry_count g) h in of_role i l is)

-- the weights copied are those of the permission
pub copied : {b w weights : List ℕ} {at : Context} {asked p : ℕ} → WeightsOf b at asked weights →
    p < permission_count b → in_set asked p ≡ true →
    ((r : ℕ) → r < 8 → get_or w r 0 ≡ get_or weights (8 * p + r) 0) → AreWeights [] b at p w
copied {p = p} all there among own = record { role = λ r l. own r l ∙ all.each p r there among l }

-- so 16 and 17 by what was seen are those of the group
module _ {b w : List ℕ} {at : Context} {p sum roles : ℕ} (g : List ℕ) (are : AreWeights [] b at p w)
    (low : (i : ℕ) → i < entry_count g → entry_role g i < 8) (total : sum ≡ sum_of (λ r. get_or w r 0) g)
    (set : roles ≡ roles_of g) where
  pub weighed_seen :
      cond (any_below 8 (λ r. in_set roles r && eqb (weight [] b at r p) 0)) 16
      (cond (permission_holds (table_of b clauses) p (entry_count g) sum roles) 0 17)
      ≡ weighed_of [] b at p g
  weighed_seen =
      let weighs = total ∙ sum_weights [] b at p w g are low in
      rw (set, weighs, light_roles (λ r. weight [] b at r p) g low)
