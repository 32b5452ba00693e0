-- Refusal 16, told by the sets of the roles without weight.
use Prim.Native.Nat.{ℕ, ◌+◌, ◌*◌, ◌^◌, ◌<◌}
use mathlib.Core.Bool.{Bool, true, false, ◌&&◌, not, and_comm}
use mathlib.Core.Path.{◌≡◌, sym, ap, ◌∙◌}
use mathlib.Core.List.{List, []}
use borrow.Author.Tests.{ne_eqb}
use lib.Bits.{bit_and}
use lib.Dec.{eqb}
use lib.ListN.{get_or}
use Rattle.folds.specs.Below.{any_below}
use Rattle.folds.specs.Sets.{in_set}
use Rattle.folds.proofs.Bools.{and_right}
use Rattle.folds.proofs.Sets.{in_and, in_set_below}
use Rattle.folds.proofs.Tests.{any_same}
use Rattle.reader.specs.Tables.{permission_count}
use Rattle.weights.specs.declared.Context.{Context}
use Rattle.weights.specs.Weights.{weight}
use Rattle.masks.proofs.Telling.{some_in}
use Rattle.batch.specs.Asked.{WeightsOf}

-- some role of a set passes a test where the set meets that of the roles that do
some_role : (passing roles : ℕ) (test : ℕ → Bool) → ((r : ℕ) → r < 8 → in_set passing r ≡ test r) →
    roles < 2 ^ 8 → not (eqb (bit_and passing roles) 0) ≡ any_below 8 (λ r. in_set roles r && test r)
some_role passing roles test passes small =
    some_in 8 (bit_and passing roles) (λ r e.
    in_set_below 8 roles r small (and_right (in_set passing r) (in_set roles r) (sym (in_and passing roles r) ∙ e)))
    ∙ any_same (in_set (bit_and passing roles)) (λ r. in_set roles r && test r) 8
    (λ r l. in_and passing roles r ∙ rw (passes r l) (and_comm (test r) (in_set roles r)))

-- the set has a role without weight for permission p
abbrev some_weightless : List ℕ → Context → ℕ → ℕ → Bool
some_weightless b at p roles = any_below 8 (λ r. in_set roles r && eqb (weight [] b at r p) 0)

-- the weights written tell of a permission asked for which roles have none
module _ {b : List ℕ} {at : Context} {asked p : ℕ} {weights : List ℕ} (all : WeightsOf b at asked weights)
    (there : p < permission_count b) (h : in_set asked p ≡ true) (without roles : ℕ)
    (none : (r : ℕ) → r < 8 → in_set without r ≡ eqb (get_or weights (8 * p + r) 0) 0) (small : roles < 2 ^ 8) where
  told : not (eqb (bit_and without roles) 0) ≡ some_weightless b at p roles
  told =
      some_role without roles (λ r. eqb (weight [] b at r p) 0)
      (λ r l. none r l ∙ ap (λ x. eqb x 0) (all.each p r there h l)) small

  -- the set has one of them
  pub some_without : (bit_and without roles ≡ 0 → ⊥) → some_weightless b at p roles ≡ true
  some_without d = sym told ∙ ap not (ne_eqb (bit_and without roles) 0 d)

  -- and it has none
  pub none_without : bit_and without roles ≡ 0 → some_weightless b at p roles ≡ false
  none_without e = sym told ∙ rw e
