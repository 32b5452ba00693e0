-- `policy_bad` meets its contract: its tests are the contract's, grouped otherwise and with `not below` as `at most`.
use Rattle.std.proofs.Common.{ℕ, List, ◌≡◌, ltb, eqb}
use mathlib.Core.Bool.{◌||◌, ◌&&◌, not, or_assoc}
use lib.Dec.{leb}
use Rattle.folds.proofs.Bools.{not_ltb}
use Rattle.reader.specs.Fields.{policy_role, policy_permission, policy_weight, policy_type, policy_context}
use Rattle.reader.specs.Rules.{policy_bad}
use Rattle.reader.proofs.records.policy_bad.Goals as goal

-- the test as the code has it, of plain values
test : (R P : ℕ) (a : List ℕ) (i : ℕ) →
    (leb R (policy_role a i) || leb P (policy_permission a i) || ltb (policy_weight a i) 1 || ltb 5 (policy_weight a i)
    || ltb 1 (policy_type a i) || (ltb 15 (policy_context a i) && not (eqb (policy_context a i) 255)))
    ≡ policy_bad R P a i
unfolding policy_bad
test R P a i = simp (not_ltb, or_assoc)

pub returns : goal.returns
returns c = let a = c.args in test a.numbers.roles a.numbers.permissions a.a.now a.i
