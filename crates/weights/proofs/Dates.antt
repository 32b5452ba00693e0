-- A context in range, and its date: days 0 to 65535 include it. The date is no parameter of context conditions: on any
-- date the same context numbers hold, and roles weigh the same.
use Prim.Native.Nat.{ℕ, ◌≤◌}
use mathlib.Core.Bool.{false, not}
use mathlib.Core.Logic.{◌↔◌}
use mathlib.Core.List.{List}
use mathlib.Core.Path.{◌≡◌, refl}
use native.Mathlib.Omega.{arith}
use borrow.Author.Tests.{ltb-true, ltb-false, lt-ltb, le-ltb, not-false}
use lib.Dec.{ltb}
use Rattle.folds.proofs.Bools.{or_left, or_right, or_neither}
use Rattle.reader.specs.Rules.{range_of, outside}
use Rattle.weights.specs.declared.Context.{Context}
use Rattle.weights.specs.Contexts.{out_of_range, on_date, value_of}
use Rattle.weights.specs.Contexts.{context_condition_holds, context_clause_holds, context_holds}
use Rattle.weights.specs.Weights.{own, inh, weight}

-- 11 refuses all contexts but those in these ranges
pub in_range : (at : Context) →
    (out_of_range at ≡ false) ↔
    ((at.minute ≤ 1439) × (at.day ≤ 6) × (at.zone ≤ 255) × (at.date ≤ 65535))
unfolding out_of_range
in_range at = (
  λ h.
      let past_minute = or_right (not (ltb at.minute (range_of 0))) _ h in
      let past_day = or_right (not (ltb at.day (range_of 1))) _ past_minute in
      let minute = ltb-true at.minute (range_of 0) (not-false _ (or_left _ _ h)) in
      let day = ltb-true at.day (range_of 1) (not-false _ (or_left _ _ past_minute)) in
      let zone = ltb-true at.zone (range_of 2) (not-false _ (or_left _ _ past_day)) in (
        omega arith,
        omega arith,
        omega arith,
        ltb-false _ _ (or_right (not (ltb at.zone (range_of 2))) _ past_day),
      ),
  λ w.
      let (minute, day, zone, date) = w in
      rw (
        lt-ltb at.minute 1440 (omega arith),
        lt-ltb at.day 7 (omega arith),
        lt-ltb at.zone 256 (omega arith),
        le-ltb 65535 at.date date,
      ),
)

pub every_date : (at : Context) → out_of_range at ≡ false → outside 0 65535 at.date ≡ false
every_date at h = or_neither (le-ltb at.date 0 (omega arith)) (le-ltb 65535 at.date ((in_range at).0 h).3)

module _ (at : Context) (date : ℕ) where
  pub holds_any_date : (c : List ℕ) (n : ℕ) → context_holds (on_date at date) c n ≡ context_holds at c n
  unfolding context_holds context_clause_holds context_condition_holds value_of
  holds_any_date c n = refl

  pub weight_any_date : (rules b : List ℕ) (r p : ℕ) → weight rules b (on_date at date) r p ≡ weight rules b at r p
  unfolding weight own inh context_holds context_clause_holds context_condition_holds value_of
  weight_any_date rules b r p = refl
