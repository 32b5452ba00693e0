-- `exclusion_bad` meets its contract: its tests are the contract's, and `end` is chosen as there.
use Rattle.std.proofs.Common.{ℕ, cond, List, ◌≡◌, sym, ◌∙◌, ltb, eqb}
use mathlib.Core.Bool.{◌||◌, or_assoc}
use lib.Dec.{leb}
use borrow.Author.Tests.{eq-eqb, ne_eqb}
use Rattle.folds.proofs.Bools.{not_ltb, met, passed}
use Rattle.reader.specs.Fields.{exclusion_kind, exclusion_first, exclusion_second}
use Rattle.reader.specs.Rules.{exclusion_bad}
use Rattle.reader.proofs.records.exclusion_bad.Goals as goal
use Rattle.reader.proofs.records.exclusion_bad.Goals.{then-kind-eq0, else-kind-eq0}

-- the test as the code has it, of plain values
test : (R P : ℕ) (x : List ℕ) (i : ℕ) {end : ℕ} → end ≡ cond (eqb (exclusion_kind x i) 0) R P →
    (ltb 1 (exclusion_kind x i) || leb (exclusion_second x i) (exclusion_first x i) || leb end (exclusion_second x i))
    ≡ exclusion_bad R P x i
unfolding exclusion_bad
test R P x i end_is = simp (end_is, not_ltb, or_assoc)

pub returns : goal.returns
returns c =
    let a = c.args in
    -- where the arms meet: the first number past those of the kind
    let end_is : c.if-kind-eq0.end ≡ cond (eqb (exclusion_kind a.x.now a.i) 0) a.numbers.roles a.numbers.permissions =
    elim c.if-kind-eq0.branch [
      | then-kind-eq0 w ↦ w.end-is ∙ met _ (eq-eqb _ _ w.if-kind-eq0.true)
      | else-kind-eq0 w ↦ w.end-is ∙ sym (passed _ (ne_eqb _ _ w.if-kind-eq0.false))
    ] in
    test a.numbers.roles a.numbers.permissions a.x.now a.i end_is
