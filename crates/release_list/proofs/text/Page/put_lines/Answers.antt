-- Each part, as it is cut off those left, is that of the definition, and its line is put behind those before it.
use Rattle.std.proofs.Common.{ℕ, ◌+◌, ◌-◌, ◌*◌, ◌<◌, ◌≤◌, ◌≡◌, refl, sym, ap, ◌∙◌, List, ◌++◌, length}
use Rattle.std.proofs.Common.{take, drop, get_or, arith, rules}
use mathlib.Core.Logic.{⊎_elim}
use native.Mathlib.Nat.{add-zero}
use lib.ListN.{length-drop, get_or-append}
use lib.Seq.{drop-drop, get_or-drop, drop-append_seam}
use Rattle.std.proofs.lemmas.List.{take-append-le, drop-append-le}
use Rattle.report.specs.Demand.{number_for, group_for}
use Rattle.release_list.specs.Text.{line_text}
use Rattle.release_list.specs.Writing.{Written, Rising, line_at, lines_text}
use Rattle.release_list.proofs.Stores.{Begun, begun_none, next_fits, begun_more, begun_all}
use Rattle.release_list.proofs.text.Page.put_lines.Goals as goal

-- the group and the line as the code makes them of a part
abbrev group_in : List ℕ → ℕ → List ℕ
group_in part m = take (1 + 2 * m - 1) (drop 1 part)

abbrev line_in : ℕ → List ℕ → ℕ → List ℕ
line_in q part m = line_text q (get_or part 0 0) (group_in part m)

-- part p, the first of those left
module _ (parts : List ℕ) (p : ℕ) (part after : List ℕ) {rest : List ℕ} (left : rest ≡ drop (13 * p) parts)
    (cut : rest ≡ part ++ after) (size : length part ≡ 13) where
  here : drop (13 * p) parts ≡ part ++ after
  here = sym left ∙ cut

  next_left : {q : ℕ} → q ≡ p + 1 → after ≡ drop (13 * q) parts
  next_left {q} next =
      let e : 13 * q ≡ 13 * p + length part = omega (arith, next, size) in
      rw (e, ← drop-drop, here, drop-append_seam)

  number_is : get_or part 0 0 ≡ number_for parts p
  number_is =
      sym (get_or-append part after 0 0 (omega arith)) ∙ ap (λ (t : List ℕ). get_or t 0 0) (sym here)
      ∙ get_or-drop (13 * p) parts 0 0 ∙ ap (λ (i : ℕ). get_or parts i 0) (add-zero (13 * p))

  module _ (few : number_for parts p ≤ 6) (m : ℕ) (number : m ≡ get_or part 0 0) where
    fits : 1 + 2 * m ≤ length part
    fits = let e = number ∙ number_is in omega arith

    group_is : group_in part m ≡ group_for parts p
    group_is =
        let e : 1 + 2 * m - 1 ≡ 2 * number_for parts p = let i = number ∙ number_is in omega arith in
        let n : 2 * number_for parts p ≤ length (drop 1 part) = rw (length-drop) (omega arith) in
        rw (e, ← drop-drop, here, drop-append-le 1 part after (omega arith), take-append-le _ (drop 1 part) after n)

    line_is : {q : ℕ} → q ≡ p → line_in q part m ≡ line_at parts p
    line_is same = rw (same, number_is, group_is)

    asked : {q : ℕ} → q ≡ p → (next : ℕ) {all : ℕ} → Rising (group_for parts p) →
        next + length (line_at parts p) ≤ all → Rising (group_in part m) × (next + length (line_in q part m) ≤ all)
    asked same next rising room = rw (line_is same, group_is) (rising, room)

    line_put : {q : ℕ} → q ≡ p → {l t : List ℕ} {at next : ℕ} → Written (line_in q part m) l at next t →
        Written (line_at parts p) l at next t
    line_put same w = rw (line_is same) at w

-- at first none is put and all are left
none_put : (parts : List ℕ) {p n : ℕ} {rest l : List ℕ} {at : ℕ} → p ≡ 0 → rest ≡ parts →
    Begun (line_at parts) n l at l at p × (rest ≡ drop (13 * p) parts)
none_put parts none all = rw (none, all) (begun_none _ _ _ _, refl)

-- where no part is left all are put
none_left : (parts : List ℕ) {p n : ℕ} {rest : List ℕ} → rest ≡ drop (13 * p) parts → length rest < 13 →
    13 * n ≤ length parts → n ≤ p
none_left parts {p} left short size = let e = ap length left ∙ length-drop (13 * p) parts in omega arith

pub loop-p-init : goal.loop-p-init
loop-p-init c =
    let given = c.into_iter-p-iterator.ensures.into_iter_gives in
    let items = c.zip-p-items.ensures in
    let none : c.into_iter-p-iterator.result.a.start ≡ 0 = cc in
    let all : c.into_iter-p-iterator.result.b.rest.now ≡ c.args.parts.now = cc in
    let (begun, rest) = none_put c.args.parts.now none all in
    record { begun = begun; end = cc; rest = rest; size = cc; same = refl }

pub slice_bounds-put_line-end : goal.slice_bounds-put_line-end
slice_bounds-put_line-end c =
    let i = c.loop-p.invariant in
    let ((end, (some, is, next)), (still, (cut, size), rem)) = c.in-Some.ensures.steps in
    let low : c.loop-p.p-iterator.a.start < c.args.n = omega arith in
    let f = fits c.args.parts.now _ _ _ i.rest cut (size ∙ i.size) (c.requires.0.few _ low) _ c.from.ensures in
    search rules

pub put_line-requires : goal.put_line-requires
unfolding lines_text
put_line-requires c =
    let i = c.loop-p.invariant in
    let ((end, (some, is, next)), (still, (cut, size), rem)) = c.in-Some.ensures.steps in
    let (all, room) = c.requires in
    let low : c.loop-p.p-iterator.a.start < c.args.n = omega arith in
    asked c.args.parts.now _ _ _ i.rest cut (size ∙ i.size) (all.few _ low) _ c.from.ensures is c.loop-p.self.len
    (all.rising _ low) (next_fits i.begun low room)

pub loop-p-preserved : goal.loop-p-preserved
loop-p-preserved c =
    let i = c.loop-p.invariant in
    let ((end, (some, is, next)), (still, (cut, size), rem)) = c.in-Some.ensures.steps in
    let low : c.loop-p.p-iterator.a.start < c.args.n = omega arith in
    let put = c.put_line.ensures in
    let w = line_put c.args.parts.now _ _ _ i.rest cut (size ∙ i.size) (c.requires.0.few _ low) _ c.from.ensures is
    put.written in
    record {
      begun = rw next (begun_more i.begun low w);
      end = end ∙ i.end;
      rest = next_left c.args.parts.now _ _ _ i.rest cut (size ∙ i.size) next;
      size = still ∙ i.size;
      same = put.same ∙ i.same;
    }

pub returns : goal.returns
unfolding lines_text
returns c =
    let i = c.loop-p.invariant in
    let done : c.args.n ≤ c.loop-p.p-iterator.a.start = ⊎_elim
    (λ r. let none = r.1.1.0 in omega arith)
    (λ r. let short = r.1.1.0 in none_left c.args.parts.now i.rest (rw i.size at short) c.requires.0.size)
    c.in-None.ensures.steps in
    record { same = i.same; written = begun_all i.begun done }
