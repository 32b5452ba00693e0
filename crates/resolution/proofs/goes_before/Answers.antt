-- `goes_before` meets its contract: at rule k no rule before it has told the two policies apart.
use Rattle.std.proofs.Common.{ℕ, suc, ◌+◌, ◌≤◌, ◌<◌, true, false, cond, ◌||◌, List, ◌≡◌, sym, ◌∙◌}
use Rattle.std.proofs.Common.{length, get_or, drop, ltb, arith, add-one, drop-cons}
use borrow.Author.Tests.{ne_eqb}
use lib.ListN.{drop_of_length-le}
use Rattle.resolution.specs.Resolution.{rule_before, goes_before}
use Rattle.resolution.proofs.goes_before.Invariants.{Turn}
use Rattle.resolution.proofs.goes_before.Goals as goal
use Rattle.resolution.proofs.goes_before.Goals.{in-Ok+in-Equal, in_default}

-- a byte that is no rule puts none before another
no_rule : (byte : ℕ) (a : List ℕ) (i j : ℕ) → 2 < byte → false ≡ rule_before byte a i j
unfolding rule_before
no_rule byte a i j h =
    let not_0 = ne_eqb byte 0 (λ e. omega arith) in
    let not_1 = ne_eqb byte 1 (λ e. omega arith) in
    let not_2 = ne_eqb byte 2 (λ e. omega arith) in
    rw (not_0, not_1, not_2)

module _ {list a : List ℕ} {i j k : ℕ} (turn : Turn list a i j k) where
  -- rule k, and those after it
  abbrev rule : ℕ
  rule = get_or list k 0

  module _ (more : k < length list) where
    next : goes_before list a i j ≡
        cond (rule_before rule a i j || rule_before rule a j i) (rule_before rule a i j)
        (goes_before (drop (suc k) list) a i j)
    unfolding goes_before
    next = turn.left ∙ rw (drop-cons list k 0 more)

    first : true ≡ rule_before rule a i j → true ≡ goes_before list a i j
    first t = rw (next, ← t)

    module _ (f : false ≡ rule_before rule a i j) where
      second : true ≡ rule_before rule a j i → false ≡ goes_before list a i j
      second t = rw (next, ← f, ← t)

      again : false ≡ rule_before rule a j i → Turn list a i j (k + 1)
      again g = record { within = omega arith; left = next ∙ rw (← f, ← g, add-one) }

  -- no rule is left: table order
  ended : length list ≤ k → ltb i j ≡ goes_before list a i j
  unfolding goes_before
  ended past = sym (turn.left ∙ rw (drop_of_length-le list past))

pub returns-in-Less : goal.returns-in-Less
returns-in-Less c =
    first c.loop-byte.invariant c.loop-byte-test.true (rw c.in-Ok.ensures at c.in-Less.ensures.before)

pub returns-in-Greater : goal.returns-in-Greater
returns-in-Greater c =
    second c.loop-byte.invariant c.loop-byte-test.true (rw c.in-Ok.ensures at c.in-Greater.ensures.before)
    (rw c.in-Ok.ensures at c.in-Greater.ensures.after)

pub loop-byte-preserved : goal.loop-byte-preserved
loop-byte-preserved c =
    elim c.match-try_from.branch [
      | in-Ok+in-Equal w ↦
          again c.loop-byte.invariant c.loop-byte-test.true (rw w.in-Ok.ensures at w.in-Equal.ensures.before)
          (rw w.in-Ok.ensures at w.in-Equal.ensures.after)
      | in_default w ↦
          again c.loop-byte.invariant c.loop-byte-test.true (no_rule _ _ _ _ w.in_default.ensures.1)
          (no_rule _ _ _ _ w.in_default.ensures.1)
    ]

pub returns : goal.returns
returns c = ended c.loop-byte.invariant c.loop-byte-test.false
