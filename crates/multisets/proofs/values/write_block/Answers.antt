-- What is read stands before what is written, so it is as it was.
use Rattle.std.proofs.Common.{ℕ, ◌+◌, ◌-◌, ◌<◌, ◌≤◌, List, ◌++◌, ◌≡◌, sym, ap, ◌∙◌, length, get_or, take, drop, arith}
use Rattle.std.proofs.Common.{rules, length-append}
use borrow.Author.Count.{below_more}
use lib.ListN.{set}
use lib.Seq.{get_or-set_same, get_or-set_other}
use Rattle.std.proofs.lemmas.List.{get_or_append_left, get_or-append_right, get_or-take, get_or-drop}
use Rattle.folds.proofs.Parts.{before_end, length_end}
use Rattle.multisets.specs.Values.{Written}
use Rattle.multisets.proofs.values.write_block.Goals as goal

-- the table: its part before `to`, and the rest, of which the first `count` are written over
module _ {t : List ℕ} (low rest block : List ℕ) {to count : ℕ} (is : t ≡ low ++ rest) (at : length low ≡ to)
    (size : length block ≡ count) (room : to + count ≤ length t) where
  rest_room : count ≤ length rest
  rest_room = let e = ap length is in omega (arith, length-append low rest)

  low_is : (i : ℕ) → i < to → get_or low i 0 ≡ get_or t i 0
  low_is i l = sym (ap (λ (x : List ℕ). get_or x i 0) is ∙ get_or_append_left low rest 0 i (omega arith))

  read : (from j : ℕ) → from + count ≤ to → j < count →
      get_or (take (from + count - from) (drop from low)) j 0 ≡ get_or t (from + j) 0
  read from j apart l =
      get_or-take (from + count - from) (drop from low) j 0 (omega arith) ∙ get_or-drop from low j 0
      ∙ low_is (from + j) (omega arith)

  written : {f : ℕ → ℕ} → ((k : ℕ) → k < count → get_or block k 0 ≡ f k) →
      Written f to count t (low ++ (block ++ drop count rest))
  written {f} made = record {
    size =
        let e = ap length is in
        let b = length_end rest block count size rest_room in
        omega (arith, length-append low rest, length-append low (block ++ drop count rest));
    here = λ j l.
        let e : to + j - to ≡ j = omega arith in
        get_or-append_right low _ to (to + j) 0 at (omega arith)
        ∙ ap (λ (i : ℕ). get_or (block ++ drop count rest) i 0) e ∙ before_end rest block count j size l ∙ made j l;
    before = λ i l. get_or_append_left low _ 0 i (omega arith) ∙ low_is i l;
  }

-- one value more
one_more : {f : ℕ → ℕ} (block : List ℕ) {j x : ℕ} → j < length block → ((k : ℕ) → k < j → get_or block k 0 ≡ f k) →
    x ≡ f j → (k : ℕ) → k < j + 1 → get_or (set block j x) k 0 ≡ f k
one_more {f} block {j} {x} l made is =
    below_more (λ k. get_or (set block j x) k 0 ≡ f k) j
    (λ k h. get_or-set_other block j k x 0 (λ e. omega arith) ∙ made k h)
    (get_or-set_same block j x 0 l ∙ is)

pub loop-j-preserved : goal.loop-j-preserved
loop-j-preserved g c = λ f step.
    let low : c.loop-j.j < c.args.count = search rules in
    one_more c.loop-j.block (omega arith) (c.loop-j.invariant f step) (step c.loop-j.j _ low c.step.ensures)

pub returns : goal.returns
returns g c = λ f step.
    let p = c.requires in
    let cut = c.split_at_mut-before.ensures in
    let size : length c.loop-j.block ≡ c.args.count = search rules in
    let low = c.split_at_mut-before.result.0.now in
    let rest = c.split_at_mut-before.result.1.now in
    let made = c.loop-j.invariant f (λ j y l called.
    step j y l (rw (read low rest c.loop-j.block cut.value cut.front_len size p.1 c.args.from j p.0 l) at called)) in
    written low rest c.loop-j.block cut.value cut.front_len size p.1 (λ k l. made k (omega arith))
