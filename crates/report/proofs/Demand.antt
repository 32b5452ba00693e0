-- Demand 3 follows from a report's promise, of any decision that grants groups as the decider does.
use Prim.Native.Nat.{ℕ, ◌*◌, ◌<◌, ◌≤◌}
use mathlib.Core.Bool.{true}
use mathlib.Core.Path.{◌≡◌, refl, sym, ap, ◌∙◌}
use mathlib.Core.Logic.{◌↔◌, ⊎_elim}
use mathlib.Core.List.{List, [], ◌++◌}
use native.Mathlib.Omega.{arith}
use native.Mathlib.Nat.{eq-zero-or-pos, lt_irrefl}
use borrow.Author.Tests.{eqb-true, eq-eqb, ltb-true, lt-ltb}
use lib.Dec.{ltb, eqb}
use lib.ListN.{length, drop, length-append}
use Rattle.folds.specs.Below.{join_below}
use Rattle.reader.specs.declared.Answer.{Answer}
use Rattle.reader.specs.Tables.{permission_count}
use Rattle.weights.specs.declared.Context.{Context}
use Rattle.resolution.proofs.Lending.{lent_left}
use Rattle.decision.specs.Groups.{entry_count}
use Rattle.decision.specs.Decision.{decision_by, decision_lent}
use Rattle.report.specs.Smallest.{Deciding, smallest_by}
use Rattle.report.specs.Report.{releasable, report_answer, ShownFrom, part_bytes, report_bytes}
use Rattle.report.specs.Report.{Reported, ReportedOf, ReportedLent}
use Rattle.report.specs.Demand.{number_for, group_for, user_num, Granting, granted_by, Grantable}
use Rattle.report.specs.Demand.{Demand3, Demanded, DemandedLent}
use Rattle.report.proofs.Least.{OfBytes, of_decision, smallest_shown, smallest_least}
use Rattle.report.proofs.Answers.{then_fits, past_base, past_list}
use Rattle.report.proofs.Filling.{at_most_six, done_length}
use Rattle.report.proofs.Standing.{number_at_lem, group_at}
use Rattle.report.proofs.Users.{granted_users}

-- what a report asks of a decision: it grants only groups of 1 to 6 whole entries of bytes, of as many users as entries
pub record Reportable (decision : Deciding) : Type 0 where
  pub of_bytes : (p : ℕ) → OfBytes (λ g. eqb (decision p g) 0)
  pub users_are : (p : ℕ) (g : List ℕ) → decision p g ≡ 0 → user_num g ≡ entry_count g

-- the decision is so by any rules
pub reportable : (rules b : List ℕ) (at : Context) → Reportable (decision_by rules b at)
reportable rules b at = record { of_bytes = of_decision rules b at; users_are = granted_users rules b at }

module _ (decision : Deciding) (sound : Reportable decision) where
  -- the law of the smallest number, of the decision
  least_of : (p : ℕ) (t : List ℕ) → decision p t ≡ 0 →
      (0 < smallest_by decision p) × (2 * smallest_by decision p ≤ length t)
  unfolding smallest_by
  least_of p t h = smallest_least (λ g. eqb (decision p g) 0) (sound.of_bytes p) t (eq-eqb _ _ h)

  some_of : (p : ℕ) → 0 < smallest_by decision p → Grantable (granted_by decision) p
  unfolding smallest_by
  some_of p l = let (t, h, _) = smallest_shown (λ g. eqb (decision p g) 0) l in (t, eqb-true _ _ h)

  zero_of : (p : ℕ) → (smallest_by decision p ≡ 0) ↔ (Grantable (granted_by decision) p → ⊥)
  zero_of p = (
    λ z s. let l = (least_of p s.0 s.1).0 in lt_irrefl 0 (rw z at l),
    λ none. ⊎_elim (λ z. z) (λ l. absurd (none (some_of p l))) (eq-zero-or-pos (smallest_by decision p)),
  )

  -- demand 3, of a report that isn't refused in a buffer that suffices
  pub demand_3 : {from : ℕ} (P refusal : ℕ) (out after : List ℕ) (r : Answer) →
      Reported from decision P refusal out after r → refusal ≡ 0 → 13 * P ≤ length out →
      Demand3 (granted_by decision) P after r
  unfolding report_answer report_bytes releasable
  demand_3 {from} P refusal out after r d e fits =
      let shown = d.shown e in
      let rest = drop (13 * P) out in
      let is : after ≡ join_below P (λ p. part_bytes (smallest_by decision p) (d.chosen p)) ++ rest =
      d.bytes ∙ rw e in
      let answer : r ≡ record { refusal = 0; count = releasable decision P } = d.answer ∙ rw e in
      let few : (q : ℕ) → q < P → smallest_by decision q ≤ 6 = λ q m. at_most_six from decision q in
      let size : (q : ℕ) → q < P → length (d.chosen q) ≡ 2 * smallest_by decision q = λ q m. (shown q m).number in
      let number : (p : ℕ) → p < P → number_for after p ≡ smallest_by decision p =
      λ p l. rw is (number_at_lem (smallest_by decision) d.chosen P rest few size p l) in
      let group : (p : ℕ) → p < P → group_for after p ≡ d.chosen p =
      λ p l. rw is (group_at (smallest_by decision) d.chosen P rest few size p l) in
      record {
        done = ap (λ (a : Answer). a.refusal) answer;
        carries =
            let parts = join_below P (λ p. part_bytes (smallest_by decision p) (d.chosen p)) in
            let n : length parts ≡ 13 * P = done_length from decision d.chosen P shown in
            rw (is, length-append parts rest) (omega arith);
        zero = λ p l. rw (number p l) (zero_of p);
        users = λ p l some. rw (group p l, number p l) (users_of p l shown (rw (number p l) at some));
        granted = λ p l some. rw (group p l) ((shown p l).granted (rw (number p l) at some));
        least = λ p l t h. rw (number p l, sound.users_are p t h) (let m = (least_of p t h).1 in omega arith);
        grantable = λ p. ltb 0 (smallest_by decision p);
        grantable_is = λ p l. grantable_of p;
        count = ap (λ (a : Answer). a.count) answer;
      }
    where
      users_of : (p : ℕ) → p < P → ((q : ℕ) → q < P → ShownFrom from decision q (d.chosen q)) →
          0 < smallest_by decision p → user_num (d.chosen p) ≡ smallest_by decision p
      users_of p l shown some =
          sound.users_are p (d.chosen p) ((shown p l).granted some)
          ∙ (let n = (shown p l).number in omega arith)

      grantable_of : (p : ℕ) → (ltb 0 (smallest_by decision p) ≡ true) ↔ Grantable (granted_by decision) p
      grantable_of p = (
        λ h. some_of p (ltb-true _ _ h),
        λ s. lt-ltb _ _ (least_of p s.0 s.1).0,
      )

-- demand 3 of what is granted is that of the same said in other words
pub same_demand : (one other : Granting) → ((p : ℕ) (g : List ℕ) → one p g ↔ other p g) → (P : ℕ) (out : List ℕ)
    (r : Answer) → Demand3 one P out r → Demand3 other P out r
same_demand one other same P out r d = record {
  done = d.done;
  carries = d.carries;
  zero = λ p l. (λ z s. (d.zero p l).0 z (back p s), λ none. (d.zero p l).1 (λ s. none (forth p s)));
  users = d.users;
  granted = λ p l some. (same p (group_for out p)).0 (d.granted p l some);
  least = λ p l t h. d.least p l t ((same p t).1 h);
  grantable = d.grantable;
  grantable_is = λ p l. (λ h. forth p ((d.grantable_is p l).0 h), λ s. (d.grantable_is p l).1 (back p s));
  count = d.count;
}
  where
    forth : (p : ℕ) → Grantable one p → Grantable other p
    forth p (t, h) = (t, (same p t).0 h)

    back : (p : ℕ) → Grantable other p → Grantable one p
    back p (t, h) = (t, (same p t).1 h)

-- so the promise of each report gives what is demanded of it
module _ (b : List ℕ) (at : Context) (out after : List ℕ) (r : Answer) where
  pub demanded : ReportedOf b at out after r → Demanded b at out after r
  demanded d ok in_range fits =
      let e = past_base b at (length out) ok refl ∙ then_fits b at (length out) in_range fits in
      demand_3 (decision_by [] b at) (reportable [] b at) (permission_count b) _ out after r d e fits

  pub demanded_lent : (list : List ℕ) → ReportedLent list b at out after r → DemandedLent list b at out after r
  unfolding decision_lent
  demanded_lent list d ok legal in_range fits =
      let e = past_list b at (length out) list ok legal refl ∙ then_fits b at (length out) in_range fits in
      same_demand (granted_by (decision_by list b at)) (granted_by (decision_lent list b at))
      (λ p g. let same = lent_left list b ok legal (decision_by list b at p g) in (λ h. same ∙ h, λ h. sym same ∙ h))
      (permission_count b) after r
      (demand_3 (decision_by list b at) (reportable list b at) (permission_count b) _ out after r d e fits)
