-- The report's answer and bytes as text.
use Prim.Native.Nat.{ℕ, ◌<◌, ◌≤◌}
use mathlib.Core.Bool.{false}
use mathlib.Core.Path.{◌≡◌, sym, ap, ◌∙◌}
use mathlib.Core.List.{List, [], ◌++◌}
use native.Mathlib.Nat.{zero-add}
use native.Mathlib.Omega.{arith}
use borrow.Author.Tests.{eq-eqb, ne_eqb, lt-ltb, le-ltb}
use lib.Dec.{eqb}
use lib.ListN.{length, drop, length-append}
use lib.Seq.{sets-eq}
use Rattle.folds.specs.Below.{join_below}
use Rattle.reader.specs.declared.Answer.{Answer}
use Rattle.reader.specs.Tables.{permission_count}
use Rattle.reader.proofs.Frame.{permissions_le}
use Rattle.reader.proofs.Accepted.{accepted_frame}
use Rattle.reader.proofs.Answered.{refusal_in, count_in}
use Rattle.weights.specs.declared.Context.{Context}
use Rattle.decision.specs.Decision.{decision_of}
use Rattle.report.specs.Smallest.{smallest_of}
use Rattle.report.specs.Report.{report_refusal, releasable, report_answer, answer_of, ShownFor, ReportedOf}
use Rattle.release_list.specs.Text.{ascii, line_text, count_text, refused_text, releasable_text, refusal_for}
use Rattle.release_list.specs.Text.{report_text, base_of, context_of, listing_text, Listed}
use Rattle.release_list.specs.Writing.{Written, Parts, lines_text, ReportListed}
use Rattle.release_list.proofs.Stores.{joined}
use Rattle.release_list.proofs.Sizes.{count_length}
use Rattle.release_list.proofs.Decimal.{two_length, three_length}
use Rattle.release_list.proofs.Shown.{base_accepted, buffer_suffices, shown_parts, shown_lines, lines_le}
use Rattle.release_list.proofs.Shown.{releasable_few}

-- a text written from byte 0 on, and the bytes behind it as they were
pub at_front : (text : List ℕ) {out after : List ℕ} {n : ℕ} → Written text out 0 n after → length text ≤ length out →
    (n ≡ length text) × (after ≡ text ++ drop n out)
at_front text {out} {after} {n} w l =
    let e : n ≡ length text = w.place ∙ zero-add (length text) in
    (e, w.bytes ∙ sets-eq text out 0 (rw zero-add l) ∙ rw (zero-add, e))

-- a line of few words and a number is short
pub count_short : (words : List ℕ) (n : ℕ) → length words ≤ 11 → length (count_text words n) ≤ 15
count_short words n l = let e = count_length words n in let h = three_length n in omega arith

-- what is known of a report that isn't refused, before its text is written: 16 lines of at most 47 bytes and a last
-- line of 14 fit
pub record Ready (b after : List ℕ) (r : Answer) : Type 0 where
  pub few : permission_count b ≤ 16
  pub parts : Parts after (permission_count b)
  pub lines : length (lines_text after (permission_count b)) ≤ 752
  pub count : r.count ≤ 16
  pub last : length (releasable_text r.count) ≤ 14

-- the answer of a report in a buffer of 208 bytes
module _ (b : List ℕ) (at : Context) (was after : List ℕ) (r : Answer) (size : length was ≡ 208)
    (d : ReportedOf b at was after r) where
  -- how many permissions have a group
  abbrev count : ℕ
  count = releasable (decision_of b at) (permission_count b)

  answer_is : r ≡ answer_of b at 208
  answer_is = d.answer ∙ ap (answer_of b at) size

  refusal_is : r.refusal ≡ report_refusal b at 208
  unfolding report_answer
  refusal_is = ap (λ (x : Answer). x.refusal) answer_is ∙ refusal_in (report_refusal b at 208) count

  -- these bytes suffice, so what is printed is the refusal for a buffer that suffices
  printed_is : r.refusal ≡ refusal_for b at
  printed_is = refusal_is ∙ buffer_suffices b at

  shown_where : refusal_for b at ≡ 0 → (p : ℕ) → p < permission_count b → ShownFor (decision_of b at) p (d.chosen p)
  shown_where z = d.shown (rw size (buffer_suffices b at ∙ z))

  pub refused_listed : (r.refusal ≡ 0 → ⊥) → {out text : List ℕ} {n : ℕ} → 768 ≤ length out →
      Written (refused_text r.refusal) out 0 n text → ReportListed b at out text n
  unfolding report_text
  refused_listed h {out} l w =
      let e : eqb (refusal_for b at) 0 ≡ false = ne_eqb _ 0 (λ z. h (printed_is ∙ z)) in
      let short = count_short (ascii "refused ") r.refusal (omega arith) in
      let t = at_front (refused_text r.refusal) w (omega (arith, short)) in
      record {
        chosen = d.chosen;
        shown = shown_where;
        size = rw (e, ← printed_is) t.0;
        bytes = rw (e, ← printed_is) t.1;
      }

  -- a report that isn't refused
  module _ (done : r.refusal ≡ 0) where
    unrefused : report_refusal b at 208 ≡ 0
    unrefused = sym refusal_is ∙ done

    shows : (p : ℕ) → p < permission_count b → ShownFor (decision_of b at) p (d.chosen p)
    shows = d.shown (rw size unrefused)

    count_is : r.count ≡ count
    unfolding report_answer
    count_is =
        ap (λ (x : Answer). x.count) answer_is ∙ count_in (report_refusal b at 208) count unrefused

    count_few : r.count ≤ 16
    count_few = rw count_is (releasable_few b at d.chosen unrefused shows)

    last_short : length (releasable_text r.count) ≤ 14
    last_short =
        let few = count_few in
        let e = count_length (ascii "releasable ") r.count in
        let h = two_length r.count (omega arith) in
        omega arith

    lines_are : lines_text after (permission_count b) ≡
        join_below (permission_count b) (λ p. line_text p (smallest_of b at p) (d.chosen p))
    lines_are = rw d.bytes (shown_lines b at d.chosen unrefused shows was size)

    lines_short : length (lines_text after (permission_count b)) ≤ 752
    lines_short = rw lines_are (lines_le b at d.chosen unrefused shows)

    pub report_ready : length after ≡ 208 → Ready b after r
    report_ready l = record {
      few = permissions_le b (accepted_frame b (base_accepted b at 208 unrefused));
      parts = rw d.bytes (shown_parts b at d.chosen unrefused shows was size (rw d.bytes at l));
      lines = lines_short;
      count = count_few;
      last = last_short;
    }

    pub done_listed : {out mid text : List ℕ} {next n : ℕ} → 768 ≤ length out →
        Written (lines_text after (permission_count b)) out 0 next mid →
        Written (releasable_text r.count) mid next n text → ReportListed b at out text n
    unfolding report_text
    done_listed {out} l v w =
        let e = eq-eqb (refusal_for b at) 0 (sym printed_is ∙ done) in
        let whole = lines_text after (permission_count b) ++ releasable_text r.count in
        let fit : length whole ≤ length out = rw length-append (omega (arith, lines_short, last_short)) in
        let t = at_front whole (joined v w) fit in
        record {
          chosen = d.chosen;
          shown = shown_where;
          size = rw (e, ← count_is, ← lines_are) t.0;
          bytes = rw (e, ← count_is, ← lines_are) t.1;
        }

-- what the program prints for an input shorter than 6 bytes
pub short_listed : {input out after : List ℕ} {n : ℕ} → length input < 6 → 768 ≤ length out →
    Written (refused_text 1) out 0 n after → Listed input out after n
unfolding listing_text
short_listed {input} {out} h l w =
    let e = lt-ltb (length input) 6 h in
    let t = at_front (refused_text 1) w (omega (arith, count_short (ascii "refused ") 1 (omega arith))) in
    record {
      chosen = λ p. [];
      shown = λ k. absurd (omega arith);
      size = rw e t.0;
      bytes = rw e t.1;
    }

-- and for any other
pub long_listed : {input out after : List ℕ} {n : ℕ} → 6 ≤ length input →
    ReportListed (base_of input) (context_of input) out after n → Listed input out after n
unfolding listing_text
long_listed {input} h d =
    let e = le-ltb (length input) 6 h in
    record {
      chosen = d.chosen;
      shown = λ k. d.shown;
      size = rw e d.size;
      bytes = rw e d.bytes;
    }

-- the text lies within the buffer
pub listed_within : {input out after : List ℕ} {n : ℕ} → Listed input out after n → n ≤ length after
listed_within {out = out} {n = n} d = rw (d.bytes, length-append) (omega (arith, d.size))
