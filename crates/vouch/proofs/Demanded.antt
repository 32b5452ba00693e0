-- What is demanded of the vouching report follows from its promise, as of the other reports.
use Prim.Native.Nat.{ℕ, ◌*◌, ◌<◌, ◌≤◌}
use mathlib.Core.Bool.{false, not}
use mathlib.Core.List.{List}
use mathlib.Core.Path.{◌≡◌, sym, ◌∙◌}
use borrow.Author.Tests.{lt-ltb, le-ltb, ltb-true, ltb-false, not-false}
use Rattle.folds.proofs.Bools.{none_met}
use lib.Dec.{ltb}
use lib.ListN.{length}
use Rattle.reader.specs.declared.Answer.{Answer}
use Rattle.report.specs.Report.{Reported}
use Rattle.reader.specs.Tables.{user_count, permission_count}
use Rattle.weights.specs.declared.Context.{Context}
use Rattle.weights.specs.Contexts.{out_of_range}
use Rattle.report.specs.Demand.{granted_by}
use Rattle.report.proofs.Answers.{reported_done}
use Rattle.report.proofs.Demand.{demand_3, same_demand}
use Rattle.vouch.specs.Decision.{Lent, stated, decision_vouched}
use Rattle.vouch.specs.Report.{led_vouched, fitting_for, report_refusal_vouched, granted_led}
use Rattle.vouch.specs.Report.{ReportedVouched, DemandedVouched}
use Rattle.vouch.specs.Parts.{AskedFor, FilledFor}
use Rattle.vouch.specs.declared.parts.Asked.{Asked}
use Rattle.vouch.proofs.Stating.{stated_left, stated_first}
use Rattle.vouch.proofs.Granted.{led_granted, led_reportable}

module _ (register : List ℕ) (threshold : ℕ) (b : List ℕ) (at : Context) (q : ℕ) where
  -- none of 11, 13 and 19
  pub fits_for : (n : ℕ) → out_of_range at ≡ false → q < user_count b → 13 * permission_count b ≤ n →
      fitting_for b at q n ≡ 0
  fits_for n in_range there fits = rw (in_range, lt-ltb _ _ there, le-ltb _ _ fits)

  pub none_refused : (n : ℕ) → Lent register threshold b → fitting_for b at q n ≡ 0 →
      report_refusal_vouched register threshold b at q n ≡ 0
  unfolding report_refusal_vouched
  none_refused n d z = stated_left register threshold b d _ ∙ z

  pub demanded_vouched : (out after : List ℕ) (r : Answer) →
      ReportedVouched register threshold b at q out after r → DemandedVouched register threshold b at q out after r
  demanded_vouched out after r promise lent in_range there fits =
      let none = none_refused (length out) lent (fits_for (length out) in_range there fits) in
      same_demand (granted_by (led_vouched register threshold b at q)) (granted_led register threshold b at q)
      (λ p g. led_granted q (decision_vouched register threshold b at) p g) (permission_count b) after r
      (demand_3 (led_vouched register threshold b at q) (led_reportable register threshold b at q)
      (permission_count b) _ out after r promise none fits)

  -- where one of 1 to 9, 25 and 27 applies, it is the report's
  pub refused_stated : (n : ℕ) {r : ℕ} → r ≡ stated register threshold b 0 → (r ≡ 0 → ⊥) →
      report_refusal_vouched register threshold b at q n ≡ r
  unfolding report_refusal_vouched
  refused_stated n is some = sym (is ∙ stated_first register threshold b (λ e. some (is ∙ e)) _)

  -- then that of 11, 13 and 19
  pub past_stated : (n : ℕ) {r : ℕ} → Lent register threshold b → r ≡ fitting_for b at q n →
      report_refusal_vouched register threshold b at q n ≡ r
  unfolding report_refusal_vouched
  past_stated n d is = stated_left register threshold b d _ ∙ sym is

  -- where none of 11, 13 and 19 applies, the requester is there and the context in range
  pub fitting_there : (n : ℕ) → fitting_for b at q n ≡ 0 →
      (out_of_range at ≡ false) × (q < user_count b) × (13 * permission_count b ≤ n)
  fitting_there n h =
      let (in_range, past11) = none_met (out_of_range at) 10 h in
      let (there, past13) = none_met (not (ltb q (user_count b))) 12 past11 in
      let room = (none_met (ltb n (13 * permission_count b)) 18 past13).0 in
      (in_range, ltb-true _ _ (not-false _ there), ltb-false _ _ room)

  -- by the base that was accepted, the context that a setting holds and whom it is for
  pub reported_for : (refusal : ℕ) (out : List ℕ) {passed after : List ℕ} {held : Context} {asked : Asked} {count : ℕ} →
      refusal ≡ 0 → passed ≡ b → held ≡ at → asked.requester ≡ q → AskedFor register threshold passed held asked →
      FilledFor passed held asked out after count →
      Reported 1 (led_vouched register threshold b at q) (permission_count b) refusal out after
      (record { refusal = 0; count = count })
  reported_for refusal out e base same who a filled =
      let (is, f) = filled register threshold a in
      reported_done 1 (led_vouched register threshold b at q) (permission_count b) refusal out e
      (rw (base, same, who) at is) (rw (base, same, who) at f)
