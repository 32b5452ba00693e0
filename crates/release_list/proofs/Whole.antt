-- The text for the whole standard input, by the bytes of it that were read.
use Prim.Native.Nat.{ℕ, ◌<◌, ◌≤◌}
use mathlib.Core.Bool.{true, false, or-true}
use mathlib.Core.Path.{◌≡◌, sym, ap, ◌∙◌}
use mathlib.Core.Logic.{⊎_elim}
use mathlib.Core.List.{List, ◌++◌}
use native.Mathlib.Omega.{arith}
use borrow.Author.Tests.{lt-ltb, le-ltb, ltb-true, ltb-false}
use lib.Dec.{ltb}
use lib.ListN.{length, take, drop, length-drop}
use lib.Seq.{take_all, length-take-le}
use Rattle.folds.proofs.Bools.{met_or_not}
use Rattle.reader.specs.Tables.{length_bad}
use Rattle.reader.specs.Rules.{refusal_of}
use Rattle.weights.specs.declared.Context.{Context}
use Rattle.report.specs.Report.{report_refusal}
use Rattle.release_list.specs.Text.{refused_text, refusal_for, report_text, base_of, context_of, listing_text, Listed}
use Rattle.release_list.specs.Text.{WholeListed}
use Rattle.release_list.proofs.Answered.{listed_within}

-- a base of more than 2,460 bytes is refused by 1
long_refused : (b : List ℕ) (at : Context) → 2460 < length b → refusal_for b at ≡ 1
unfolding report_refusal refusal_of length_bad
long_refused b at h = rw (lt-ltb 2460 (length b) h, or-true)

-- the base of an input of more than 2,466 bytes is such a base
module _ (input : List ℕ) (long : 2466 < length input) where
  base_refused : refusal_for (base_of input) (context_of input) ≡ 1
  base_refused = long_refused (base_of input) (context_of input) (rw length-drop (omega arith))

  long_text : (chosen : ℕ → List ℕ) → listing_text input chosen ≡ refused_text 1
  unfolding listing_text report_text
  long_text chosen = rw (le-ltb (length input) 6 (omega arith), base_refused)

-- so the text for each such input is the same
long_same : (part whole : List ℕ) {out after : List ℕ} {n : ℕ} → 2466 < length part → 2466 < length whole →
    Listed part out after n → Listed whole out after n
long_same part whole {out} {after} {n} p w d =
    let e : listing_text part d.chosen ≡ listing_text whole d.chosen =
    long_text part p d.chosen ∙ sym (long_text whole w d.chosen) in
    record {
      chosen = d.chosen;
      shown = λ k z. absurd (omega (arith, base_refused whole w));
      size = d.size ∙ ap length e;
      bytes = d.bytes ∙ ap (λ text. text ++ drop n out) e;
    }

-- the text for the part that was read is that for the whole: the part is the whole, or both are long
pub whole_listed : {input out after : List ℕ} {read n : ℕ} → length input ≡ 2467 →
    Listed (take read input) out after n → WholeListed input read out after n
whole_listed {input} {out} {after} {read} {n} size d =
    record { listed = λ whole e. ⊎_elim (more whole e) (all whole e) (met_or_not (ltb (length input) (length whole))) }
  where
    all : (whole : List ℕ) → take (length input) whole ≡ take read input →
        ltb (length input) (length whole) ≡ false → Listed whole out after n
    all whole e t = rw (← take_all (length input) whole (ltb-false _ _ t), e) d

    more : (whole : List ℕ) → take (length input) whole ≡ take read input →
        ltb (length input) (length whole) ≡ true → Listed whole out after n
    more whole e t =
        let h : length input < length whole = ltb-true _ _ t in
        let s : length (take read input) ≡ length input =
        ap length (sym e) ∙ length-take-le (length input) whole (omega arith) in
        long_same (take read input) whole (omega arith) (omega arith) d

-- the text lies within the buffer
pub whole_within : {input out after : List ℕ} {read n : ℕ} → read ≤ length input → WholeListed input read out after n →
    n ≤ length after
whole_within {input} {read = read} h d =
    let part = take read input in
    let same = take_all (length input) part (rw (length-take-le read input h) h) in
    listed_within (d.listed part same)
