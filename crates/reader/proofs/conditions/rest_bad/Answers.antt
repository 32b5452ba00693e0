-- `rest_bad` meets its contract: its tests are the contract's, and a number in 2 bytes is 0 where both bytes are.
use Rattle.std.proofs.Common.{rules, tests, ℕ, ◌+◌, ◌*◌, Bool, List, ◌≡◌, ltb, eqb, arith}
use Rattle.std.proofs.lemmas.Bool.Decides.{nat_tests}
use mathlib.Core.Bool.{◌||◌, not, or_assoc}
use Rattle.folds.specs.Below.{any_below}
use Rattle.folds.proofs.Chains.{any_of_range}
use Rattle.reader.specs.Bytes.{word16}
use Rattle.reader.specs.Fields.{condition_count, zero_byte14, zero_byte15}
use Rattle.reader.specs.Rules.{slot_bad, rest_bad}
use Rattle.reader.proofs.conditions.rest_bad.Goals as goal

-- a number in 2 bytes is 0 where both bytes are
two_bytes : (low high : ℕ) → not (eqb (low + 256 * high) 0) ≡ (not (eqb low 0) || not (eqb high 0))
two_bytes low high = grind (arith, nat_tests)

-- the 2 zero bytes, read as one number
zeros_rule : (r : List ℕ) (i : ℕ) →
    not (eqb (word16 r (16 * i + 14)) 0) ≡ (not (eqb (zero_byte14 r i) 0) || not (eqb (zero_byte15 r i) 0))
unfolding word16
zeros_rule r i =
    let last : 16 * i + 14 + 1 ≡ 16 * i + 15 = omega arith in
    rw last (two_bytes (zero_byte14 r i) (zero_byte15 r i))

-- a record behind its first byte: the code's tests are the rules
rest_rule : (r : List ℕ) (i : ℕ) (test : ℕ → Bool) {n slots most zeros : ℕ} {bad : Bool} → n ≡ condition_count r i →
    most ≡ slots → bad ≡ any_below slots test → zeros ≡ word16 r (16 * i + 14) →
    (((ltb n 1 || ltb most n) || bad) || not (eqb zeros 0)) ≡ rest_bad slots test r i
rest_rule r i test n_is slots_are bad_is zeros_are = rw (n_is, slots_are, bad_is, zeros_are, zeros_rule) (simp or_assoc)

pub returns : goal.returns
returns g c =
    let on = g.C.Condition in
    let a = c.args in
    let bad : ℕ → Bool = slot_bad on.at (on.bad a.roles) on.nonzero a.records.now a.i in
    rest_rule a.records.now a.i bad c.count-n.ensures.0 c.SLOTS-2.ensures
    (any_of_range bad on.SLOTS _ _ _ (cc) (λ x b q k. search (rules, tests)) c.any-slots_bad.ensures.ran)
    c.get16-zeros.ensures
