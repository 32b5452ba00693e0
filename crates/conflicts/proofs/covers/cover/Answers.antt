-- `cover` meets its contract: the policy's own role, and for type 1 that role's seniors with it.
use Rattle.std.proofs.Common.{ℕ, ◌≡◌, true, false, List, eqb, bit_or, sym, ap, ◌∙◌}
use Prim.Native.Nat.{◌^◌}
use mathlib.Core.Bool.{or-false}
use Rattle.folds.specs.Sets.{in_set}
use Rattle.folds.proofs.Bools.{eqb_sym}
use Rattle.folds.proofs.Sets.{in_one, in_or}
use Rattle.reader.specs.Fields.{policy_role, policy_type}
use Rattle.weights.specs.Seniority.{senior_to}
use Rattle.conflicts.specs.Conflicts.{covers}
use Rattle.conflicts.proofs.covers.cover.Goals as goal

module _ (h a : List ℕ) (i r : ℕ) {own : ℕ} (is : own ≡ 2 ^ policy_role a i) where
  own_role : in_set own r ≡ eqb (policy_role a i) r
  own_role = rw is (in_one (policy_role a i) r ∙ eqb_sym r (policy_role a i))

  alone : eqb (policy_type a i) 1 ≡ false → in_set own r ≡ covers h a i r
  unfolding covers
  alone other = rw (other, or-false) own_role

  with_seniors : (seniors : ℕ) → eqb (policy_type a i) 1 ≡ true → in_set seniors r ≡ senior_to h r (policy_role a i) →
      in_set (bit_or own seniors) r ≡ covers h a i r
  unfolding covers
  with_seniors seniors one e = in_or own seniors r ∙ rw (own_role, e, one)

pub returns-else-is_inherited : goal.returns-else-is_inherited
returns-else-is_inherited c =
    let own = rw c.role-role.ensures.0 at c.role_bit-own.ensures in
    let other = sym c.is_inherited.ensures.0 ∙ c.if-is_inherited.false in
    λ h juniors r l. alone h c.args.a.now c.args.i r own other

pub returns-then-is_inherited : goal.returns-then-is_inherited
returns-then-is_inherited c =
    let own = rw c.role-role.ensures.0 at c.role_bit-own.ensures in
    let one = sym c.is_inherited.ensures.0 ∙ c.if-is_inherited.true in
    λ h juniors r l.
    with_seniors h c.args.a.now c.args.i r own c.seniors_of.result one
    (c.seniors_of.ensures r l ∙ juniors.role r _ l ∙ ap (senior_to h r) c.role-role.ensures.0)
