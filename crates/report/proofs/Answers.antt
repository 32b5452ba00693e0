-- The reports' answers, by the first refusal that applies.
use Prim.Native.Nat.{ℕ, ◌*◌, ◌<◌, ◌≤◌}
use mathlib.Core.Bool.{true, false}
use mathlib.Core.Path.{◌≡◌, sym, ◌∙◌}
use mathlib.Core.List.{List, []}
use borrow.Author.Tests.{ne_eqb, lt-ltb, le-ltb, ltb-false}
use lib.Dec.{ltb}
use Rattle.folds.proofs.Bools.{met, passed, refused, unrefused, none_met}
use Rattle.reader.specs.Tables.{permission_count}
use Rattle.reader.specs.Rules.{refusal_of}
use Rattle.reader.specs.declared.Answer.{Answer}
use Rattle.weights.specs.declared.Context.{Context}
use Rattle.weights.specs.Contexts.{out_of_range}
use Rattle.resolution.specs.Resolution.{list_refused, lent}
use Rattle.resolution.proofs.Lending.{lent_left, lent_refused}
use Rattle.decision.specs.Decision.{decision_by}
use Rattle.report.specs.Smallest.{Deciding}
use Rattle.report.specs.Report.{room, fitting, report_refusal, report_refusal_lent, releasable, report_answer}
use Rattle.report.specs.Report.{report_bytes, Reported}
use Rattle.report.specs.Parts.{Filled, FilledBy}

-- 19 doesn't apply in a buffer that suffices
pub then_room : (b : List ℕ) {n : ℕ} → 13 * permission_count b ≤ n → room b n ≡ 0
then_room b fits = rw (le-ltb _ _ fits)

module _ (b : List ℕ) (at : Context) (n : ℕ) where
  -- 11, then 19
  pub fitting_11 : out_of_range at ≡ true → fitting b at n ≡ 11
  fitting_11 beyond = sym (met _ beyond)

  pub fitting_19 : out_of_range at ≡ false → n < 13 * permission_count b → fitting b at n ≡ 19
  fitting_19 in_range short = passed 11 in_range ∙ sym (met 0 (lt-ltb _ _ short))

  -- neither applies
  pub fits_then : fitting b at n ≡ 0 → (out_of_range at ≡ false) × (13 * permission_count b ≤ n)
  fits_then h =
      let (in_range, past11) = none_met (out_of_range at) 10 h in
      (in_range, ltb-false _ _ (none_met (ltb n (13 * permission_count b)) 18 past11).0)

  pub then_fits : out_of_range at ≡ false → 13 * permission_count b ≤ n → fitting b at n ≡ 0
  then_fits in_range fits = rw in_range (then_room b fits)

  -- without a list: 1 to 9, then 11 and 19
  pub refused_base : {r : ℕ} → r ≡ refusal_of b → (r ≡ 0 → ⊥) → report_refusal b at n ≡ r
  unfolding report_refusal
  refused_base is some = sym (is ∙ refused _ (λ e. some (is ∙ e)))

  pub past_base : {r : ℕ} → refusal_of b ≡ 0 → r ≡ fitting b at n → report_refusal b at n ≡ r
  unfolding report_refusal
  past_base ok is = unrefused ok ∙ sym is

  -- with a list: 1 to 9 and 22, then 11 and 19
  module _ (list : List ℕ) where
    pub refused_list : {r : ℕ} → r ≡ lent list b 0 → (r ≡ 0 → ⊥) → report_refusal_lent list b at n ≡ r
    unfolding report_refusal_lent
    refused_list is some = sym (is ∙ lent_refused list b (λ e. some (is ∙ e)) (fitting b at n))

    pub past_list : {r : ℕ} → refusal_of b ≡ 0 → list_refused list ≡ false → r ≡ fitting b at n →
        report_refusal_lent list b at n ≡ r
    unfolding report_refusal_lent
    past_list ok legal is = lent_left list b ok legal (fitting b at n) ∙ sym is

-- the setting's context is the one that is asked about
pub same_range : {x at : Context} → x ≡ at → out_of_range at ≡ false → out_of_range x ≡ false
same_range same in_range = rw same in_range

module _ (from : ℕ) (decision : Deciding) (P refusal : ℕ) (out : List ℕ) where
  -- a refusal carries 0 and writes nothing
  pub reported_refused : {n : ℕ} → refusal ≡ n → (n ≡ 0 → ⊥) →
      Reported from decision P refusal out out (record { refusal = n; count = 0 })
  unfolding report_answer report_bytes
  reported_refused {n} e some = record {
    answer = rw (e, ne_eqb _ _ some);
    chosen = λ p. [];
    shown = λ z. absurd (some (sym e ∙ z));
    bytes = rw (e, ne_eqb _ _ some);
  }

  -- otherwise each part stands in the buffer
  pub reported_done : {after : List ℕ} {count : ℕ} → refusal ≡ 0 → count ≡ releasable decision P →
      Filled from decision P out after →
      Reported from decision P refusal out after (record { refusal = 0; count = count })
  unfolding report_answer report_bytes
  reported_done e is f = record {
    answer = rw (e, is);
    chosen = f.chosen;
    shown = λ z. f.shown;
    bytes = rw e f.bytes;
  }

-- an answer that is this one
pub refused_as : {from : ℕ} {decision : Deciding} {P refusal : ℕ} {out after : List ℕ} {x y : Answer} → x ≡ y →
    Reported from decision P refusal out after y → Reported from decision P refusal out after x
refused_as e reported = rw e reported

-- by the base that was accepted, and the context and the rules that a setting holds
pub reported_by : (rules b : List ℕ) (at : Context) (refusal : ℕ) (out : List ℕ)
    {passed kept after : List ℕ} {held : Context} {count : ℕ} → refusal ≡ 0 → passed ≡ b → held ≡ at → kept ≡ rules →
    FilledBy 0 (decision_by kept passed held) (permission_count passed) out after count →
    Reported 0 (decision_by rules b at) (permission_count b) refusal out after (record { refusal = 0; count = count })
reported_by rules b at refusal out e base same listed (is, f) =
    reported_done 0 (decision_by rules b at) (permission_count b) refusal out e
    (rw (base, same, listed) at is) (rw (base, same, listed) at f)
