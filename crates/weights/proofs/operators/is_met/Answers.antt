-- What each operator says, of plain values.
use Rattle.std.proofs.Common.{◌≡◌, ℕ, ◌^◌, ◌<◌, ◌≤◌, false, not, bit_and, arith}
use borrow.Author.Tests.{ne_eqb}
use lib.Dec.{ltb, leb, eqb}
use Rattle.folds.proofs.Sets.{contains_and}
use Rattle.weights.specs.Operators.{meets}
use Rattle.weights.proofs.operators.is_met.Goals as goal

module _ (o x v : ℕ) where
  above : o ≡ 0 → ltb v x ≡ meets o x v
  unfolding meets
  above e = rw e

  below : o ≡ 1 → ltb x v ≡ meets o x v
  unfolding meets
  below e = rw e

  at_least : o ≡ 2 → leb v x ≡ meets o x v
  unfolding meets
  at_least e = rw e

  at_most : o ≡ 3 → leb x v ≡ meets o x v
  unfolding meets
  at_most e = rw e

  equal : o ≡ 4 → eqb x v ≡ meets o x v
  unfolding meets
  equal e = rw e

  unequal : o ≡ 5 → not (eqb x v) ≡ meets o x v
  unfolding meets
  unequal e = rw e

  contained : o ≡ 6 → v < 2 ^ 32 → eqb (bit_and x v) v ≡ meets o x v
  unfolding meets
  contained e small = rw e (contains_and x v small)

  other : 7 ≤ o → false ≡ meets o x v
  unfolding meets
  other h =
      let not_0 = ne_eqb o 0 (λ e. omega arith) in
      let not_1 = ne_eqb o 1 (λ e. omega arith) in
      let not_2 = ne_eqb o 2 (λ e. omega arith) in
      let not_3 = ne_eqb o 3 (λ e. omega arith) in
      let not_4 = ne_eqb o 4 (λ e. omega arith) in
      let not_5 = ne_eqb o 5 (λ e. omega arith) in
      let not_6 = ne_eqb o 6 (λ e. omega arith) in
      rw (not_0, not_1, not_2, not_3, not_4, not_5, not_6)

pub returns-in-6 : goal.returns-in-6
returns-in-6 c = contained _ _ _ (omega arith) (omega arith)

pub returns-then-operator-eq0 : goal.returns-then-operator-eq0
returns-then-operator-eq0 c = above _ _ _ (omega arith)

pub returns-else-operator-eq0 : goal.returns-else-operator-eq0
returns-else-operator-eq0 c = below _ _ _ (omega arith)

pub returns-then-operator-eq2 : goal.returns-then-operator-eq2
returns-then-operator-eq2 c = at_least _ _ _ (omega arith)

pub returns-else-operator-eq2 : goal.returns-else-operator-eq2
returns-else-operator-eq2 c = at_most _ _ _ (omega arith)

pub returns-then-operator-eq4 : goal.returns-then-operator-eq4
returns-then-operator-eq4 c = equal _ _ _ (omega arith)

pub returns-else-operator-eq4 : goal.returns-else-operator-eq4
returns-else-operator-eq4 c = unequal _ _ _ (omega arith)

pub returns-in_default : goal.returns-in_default
returns-in_default c = other _ _ _ (omega arith)
