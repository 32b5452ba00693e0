-- The parts of the permissions, one behind the other in the buffer.
use Prim.Native.Nat.{ℕ, ◌+◌, ◌-◌, ◌*◌, ◌<◌, ◌≤◌}
use mathlib.Core.Bool.{cond}
use mathlib.Core.Path.{◌≡◌, refl, sym, ap, ◌∙◌}
use mathlib.Core.Logic.{⊎_elim}
use mathlib.Core.List.{List, [], ◌++◌, append_assoc}
use native.Mathlib.Omega.{arith}
use native.Mathlib.Nat.{eq-or-lt_of_le, le_of_suc-le-suc, not-suc-le-zero}
use native.Mathlib.Numerals.{add-one}
use borrow.Author.Tests.{eq-eqb, ne_eqb}
use borrow.Rule.Slice.PartMut.{put_mid, post_of, Post-is}
use lib.Dec.{ltb, eqb}
use lib.ListN.{length, get_or, take, drop}
use lib.Seq.{drop-drop, take_at, drop_at}
use Rattle.folds.specs.Below.{join_below}
use Rattle.folds.proofs.Lists.{join_none, join_more, join_same}
use Rattle.folds.proofs.Numbers.{count_none, count_le, count_more}
use Rattle.report.specs.Smallest.{Deciding, smallest_by}
use Rattle.report.specs.Report.{releasable, ShownFrom, part_bytes}
use Rattle.report.specs.Parts.{PartFor, Filled}
use Rattle.report.proofs.Least.{smallest_six}
use Rattle.report.proofs.Standing.{part_length, parts_length}

module _ (from : ℕ) (decision : Deciding) where
  pub at_most_six : (p : ℕ) → smallest_by decision p ≤ 6
  unfolding smallest_by
  at_most_six p = smallest_six (λ g. eqb (decision p g) 0)

  pub part_13 : (p : ℕ) (g : List ℕ) → ShownFrom from decision p g → length (part_bytes (smallest_by decision p) g) ≡ 13
  part_13 p g s = part_length (smallest_by decision p) g (at_most_six p) s.number

  -- the parts of n permissions
  abbrev parts : (ℕ → List ℕ) → ℕ → List ℕ
  parts chosen n = join_below n (λ p. part_bytes (smallest_by decision p) (chosen p))

  pub done_length : (chosen : ℕ → List ℕ) (n : ℕ) → ((p : ℕ) → p < n → ShownFrom from decision p (chosen p)) →
      length (parts chosen n) ≡ 13 * n
  done_length chosen n shown =
      parts_length (λ p. part_bytes (smallest_by decision p) (chosen p)) n (λ p l. part_13 p (chosen p) (shown p l))

  pub filled_none : (out : List ℕ) → Filled from decision 0 out out
  filled_none out = record {
    chosen = λ p. [];
    shown = λ p l. absurd (not-suc-le-zero l);
    bytes = rw (join_none (λ p. part_bytes (smallest_by decision p) []));
  }

  -- the groups chosen, with that of one permission more
  abbrev also : (ℕ → List ℕ) → ℕ → List ℕ → ℕ → List ℕ
  also chosen p g q = cond (eqb q p) g (chosen q)

  also_here : (chosen : ℕ → List ℕ) (p : ℕ) (g : List ℕ) (q : ℕ) → q ≡ p → also chosen p g q ≡ g
  also_here chosen p g q e = rw (eq-eqb q p e)

  also_other : (chosen : ℕ → List ℕ) (p : ℕ) (g : List ℕ) (q : ℕ) → q < p → also chosen p g q ≡ chosen q
  also_other chosen p g q l = rw (ne_eqb q p (λ e. omega arith))

  -- the parts with that of one permission more
  parts_more : (chosen : ℕ → List ℕ) (p : ℕ) (g part : List ℕ) → part ≡ part_bytes (smallest_by decision p) g →
      parts (also chosen p g) (p + 1) ≡ parts chosen p ++ part
  parts_more chosen p g part is =
      join_more (λ q. part_bytes (smallest_by decision q) (also chosen p g q)) p
      ∙ rw (also_here chosen p g p refl, ← is) (ap (λ (l : List ℕ). l ++ part) before)
    where
      before : parts (also chosen p g) p ≡ parts chosen p
      before =
          join_same (λ q. part_bytes (smallest_by decision q) (also chosen p g q))
          (λ q. part_bytes (smallest_by decision q) (chosen q)) p
          (λ q l. ap (λ (x : List ℕ). part_bytes (smallest_by decision q) x) (also_other chosen p g q l))

  pub filled_more : (p : ℕ) (was out part : List ℕ) → Filled from decision p was out → PartFor from decision p part →
      13 * p + 13 ≤ length out → Filled from decision (p + 1) was (put_mid (13 * p) (13 * p + 13 - 13 * p) out part)
  filled_more p was out part f this fit = record {
    chosen = also f.chosen p this.group;
    shown = λ q l. ⊎_elim
        (λ e. rw (also_here f.chosen p this.group q e, e) this.shown)
        (λ m. rw (also_other f.chosen p this.group q m) (f.shown q m))
        (eq-or-lt_of_le (le_of_suc-le-suc (rw add-one at l)));
    bytes =
        let a : ℕ = 13 * p in
        let e : ℕ = 13 * p + 13 in
        let next : 13 * (p + 1) ≡ e = omega arith in
        let done = parts f.chosen p in
        let len : length done ≡ a = done_length f.chosen p f.shown in
        let front : take a out ≡ done = rw f.bytes (take_at done (drop a was) a len) in
        let back : drop a out ≡ drop a was = rw f.bytes (drop_at done (drop a was) a len) in
        let post : post_of a (e - a) out ≡ drop e was =
        Post-is a e out (omega arith) ∙ sym (drop-drop 13 a out) ∙ ap (λ (l : List ℕ). drop 13 l) back
        ∙ drop-drop 13 a was in
        let more = parts_more f.chosen p this.group part this.bytes in
        rw (front, post, next, more) (sym (append_assoc done part (drop e was)));
  }

  -- of the first p permissions at most p are counted
  pub count_few : (p : ℕ) → releasable decision p ≤ p
  unfolding releasable
  count_few = count_le (λ q. ltb 0 (smallest_by decision q))

  pub count_start : 0 ≡ releasable decision 0
  unfolding releasable
  count_start = sym (count_none (λ q. ltb 0 (smallest_by decision q)))

  -- the count with one permission more
  pub count_part : (p : ℕ) (part : List ℕ) (count more : ℕ) → PartFor from decision p part →
      count ≡ releasable decision p →
      more ≡ cond (ltb 0 (get_or part 0 0)) 1 0 → count + more ≡ releasable decision (p + 1)
  unfolding releasable
  count_part p part count more this e f =
      let k : get_or part 0 0 ≡ smallest_by decision p = ap (λ (l : List ℕ). get_or l 0 0) this.bytes in
      rw (e, f, k) (sym (count_more (λ q. ltb 0 (smallest_by decision q)) p))
