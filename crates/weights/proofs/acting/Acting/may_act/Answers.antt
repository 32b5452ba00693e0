-- The role is in the set of those in which the user may act.
use borrow.Author.Tests.{le-ltb}
use Rattle.std.proofs.Common.{◌≡◌, ℕ, Bool, List, sym, ap, ◌∙◌}
use Rattle.folds.specs.Sets.{in_set, set_below}
use Rattle.reader.specs.Rules.{refusal_of}
use Rattle.weights.specs.Acting.{may_act}
use Rattle.weights.proofs.MayAct.{acting_past, acting_in}
use Rattle.weights.proofs.acting.Acting.may_act.Goals as goal

in_acting : (b : List ℕ) → refusal_of b ≡ 0 → (u r : ℕ) {set : ℕ} {may : Bool} → set ≡ set_below 8 (may_act b u) →
    may ≡ in_set set r → may ≡ may_act b u r
in_acting b ok u r set_is is = is ∙ ap (λ (s : ℕ). in_set s r) set_is ∙ acting_in b ok u r

pub returns-else-role-lt8 : goal.returns-else-role-lt8
returns-else-role-lt8 c =
    le-ltb _ _ c.if-role-lt8.false ∙ sym (acting_past _ c.roles-roles.ensures.accepted _ _ c.if-role-lt8.false)

pub returns-then-role-lt8 : goal.returns-then-role-lt8
returns-then-role-lt8 c =
    in_acting _ c.roles-roles.ensures.accepted _ _ c.roles-roles.ensures.roles c.in_set.ensures
