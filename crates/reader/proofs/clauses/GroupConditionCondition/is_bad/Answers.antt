-- A group condition's test is the contract's; of the attribute roles it shifts.
use Rattle.std.proofs.Common.{ℕ, ◌*◌, ◌%◌, ◌^◌, ◌≤◌, ◌≡◌, eqb, arith}
use mathlib.Core.Bool.{◌||◌, not, or_assoc}
use native.Mathlib.Nat.{one-mul}
use borrow.Author.Tests.{lt-ltb, le-ltb}
use lib.Dec.{leb, lit<}
use lib.Pow.{shl_exact}
use Rattle.folds.proofs.Bools.{not_ltb}
use Rattle.reader.specs.Rules.{condition_bad}
use Rattle.reader.proofs.clauses.GroupConditionCondition.is_bad.Goals as goal

-- a condition of the attribute roles: the code's test of the value shifts
set_rule : (R attribute operator value : ℕ) → R ≤ 8 → 3 ≤ attribute →
    ((not (eqb attribute 3) || not (eqb operator 6)) || leb ((1 * 2 ^ R) % 2 ^ 32) value)
    ≡ condition_bad R attribute operator value
unfolding condition_bad
set_rule R attribute operator value few high =
    let exact = shl_exact {a = 1} 1 R 32 (lit< tt) (omega arith) in
    rw (le-ltb _ _ high, exact, one-mul, not_ltb, or_assoc)

pub returns-then-self-lt3 : goal.returns-then-self-lt3
unfolding condition_bad
returns-then-self-lt3 c = rw (lt-ltb _ _ c.if-self-lt3.true)

pub returns-else-self-lt3 : goal.returns-else-self-lt3
returns-else-self-lt3 c = rw c.from.ensures (set_rule _ _ _ _ c.requires c.if-self-lt3.false)
