-- What the program reads off a report.
use Prim.Native.Nat.{ℕ, ◌*◌, ◌<◌, ◌≤◌}
use mathlib.Core.Bool.{Bool, true, false, not, cond}
use mathlib.Core.Path.{◌≡◌, refl}
use mathlib.Core.Logic.{⊎_elim}
use mathlib.Core.List.{List, [], ◌++◌}
use native.Mathlib.Nat.{eq-zero-or-pos}
use native.Mathlib.Omega.{arith}
use borrow.Author.Tests.{eqb-true, eq-eqb, le-ltb}
use lib.Dec.{ltb, eqb}
use lib.ListN.{length, drop}
use Rattle.folds.specs.Below.{join_below}
use Rattle.folds.proofs.Lists.{join_same, join_length}
use Rattle.folds.proofs.Numbers.{sum_le, count_le}
use Rattle.reader.specs.Tables.{permission_count}
use Rattle.reader.specs.Rules.{refusal_of}
use Rattle.reader.proofs.Frame.{roles_range, permissions_le, users_le}
use Rattle.reader.proofs.Accepted.{accepted_frame}
use Rattle.weights.specs.declared.Context.{Context}
use Rattle.weights.specs.Contexts.{out_of_range}
use Rattle.decision.specs.Decision.{decision_of}
use Rattle.decision.specs.Groups.{entry_count, entry_user, entry_role}
use Rattle.decision.proofs.Granting.{granted_by}
use Rattle.report.specs.Smallest.{smallest_of}
use Rattle.report.specs.Report.{report_refusal, releasable, part_bytes, report_bytes, ShownFor}
use Rattle.report.specs.Demand.{number_for, group_for}
use Rattle.release_list.specs.Text.{line_text, refusal_for}
use Rattle.release_list.specs.Writing.{Rising, Parts, line_at, lines_text}
use Rattle.release_list.proofs.Order.{line_le}
use Rattle.report.proofs.Standing.{number_at_lem, group_at}

-- a report that isn't refused is on an accepted base
pub base_accepted : (b : List ℕ) (at : Context) (n : ℕ) → report_refusal b at n ≡ 0 → refusal_of b ≡ 0
unfolding report_refusal
base_accepted b at n = by (eqb (refusal_of b) 0) refl
  where
    by : (t : Bool) → eqb (refusal_of b) 0 ≡ t →
        cond (not t) (refusal_of b) (cond (out_of_range at) 11 (cond (ltb n (13 * permission_count b)) 19 0)) ≡ 0 →
        refusal_of b ≡ 0
    by true e h = eqb-true (refusal_of b) 0 e
    by false e h = h

-- 208 bytes suffice: 13 for each of at most 16 permissions
pub buffer_suffices : (b : List ℕ) (at : Context) → report_refusal b at 208 ≡ refusal_for b at
unfolding report_refusal
buffer_suffices b at = by (eqb (refusal_of b) 0) refl
  where
    by : (t : Bool) → eqb (refusal_of b) 0 ≡ t →
        cond (not t) (refusal_of b) (cond (out_of_range at) 11 (cond (ltb 208 (13 * permission_count b)) 19 0)) ≡
        cond (not t) (refusal_of b)
        (cond (out_of_range at) 11 (cond (ltb (13 * permission_count b) (13 * permission_count b)) 19 0))
    by true e =
        let few = permissions_le b (accepted_frame b (eqb-true (refusal_of b) 0 e)) in
        let size = 13 * permission_count b in
        rw (le-ltb 208 size (omega arith), le-ltb size size (omega arith))
    by false e = refl

-- a group that is shown is small, its users rise, and users and roles have few digits
module _ (b : List ℕ) (at : Context) (p : ℕ) (g : List ℕ) (shown : ShownFor (decision_of b at) p g) where
  count_is : entry_count g ≡ smallest_of b at p
  count_is = let e = shown.number in omega arith

  shown_rising : Rising g
  shown_rising = record { rises = λ i j l h. shown.rising i j (omega arith) l (rw (← count_is) h) }

  shown_few : smallest_of b at p ≤ 6
  shown_few =
      ⊎_elim (λ z. omega arith)
      (λ h. let w = ((granted_by [] b at p g).0 (shown.granted h)).3.few in let e = count_is in omega arith)
      (eq-zero-or-pos (smallest_of b at p))

  user_below : (i : ℕ) → i < entry_count g → entry_user g i < 100
  user_below i l =
      let e = count_is in
      let (ok, _, _, w) = (granted_by [] b at p g).0 (shown.granted (omega arith)) in
      let f = accepted_frame b ok in
      let n = users_le b f in
      let u = w.user i l in
      omega arith

  role_below : (i : ℕ) → i < entry_count g → entry_role g i < 10
  role_below i l =
      let e = count_is in
      let (ok, _, _, w) = (granted_by [] b at p g).0 (shown.granted (omega arith)) in
      let n = (roles_range b (accepted_frame b ok)).1 in
      let r = w.role i l in
      omega arith

  shown_line : p < 100 → length (line_text p (smallest_of b at p) g) ≤ 47
  shown_line l =
      let e = count_is in
      let few = shown_few in
      line_le p (smallest_of b at p) g l (omega arith) shown_rising (omega arith) user_below role_below

-- a report in a buffer of 208 bytes that isn't refused
module _ (b : List ℕ) (at : Context) (chosen : ℕ → List ℕ) (ok : report_refusal b at 208 ≡ 0)
    (shown : (p : ℕ) → p < permission_count b → ShownFor (decision_of b at) p (chosen p)) where
  pub permissions_few : permission_count b ≤ 16
  permissions_few = permissions_le b (accepted_frame b (base_accepted b at 208 ok))

  -- the buffer that held `out`
  abbrev written : List ℕ → List ℕ
  written out = report_bytes (decision_of b at) (permission_count b) (report_refusal b at (length out)) chosen out

  -- the parts in order, and the bytes behind them as they were
  parts_bytes : (out : List ℕ) → length out ≡ 208 →
      written out ≡
      join_below (permission_count b) (λ p. part_bytes (smallest_of b at p) (chosen p))
      ++ drop (13 * permission_count b) out
  unfolding report_bytes
  parts_bytes out e = rw (e, eq-eqb (report_refusal b at 208) 0 ok)

  module _ (out : List ℕ) (e : length out ≡ 208) where
    number_shown : (p : ℕ) → p < permission_count b → number_for (written out) p ≡ smallest_of b at p
    number_shown p l =
        rw (parts_bytes out e)
        (number_at_lem (smallest_of b at) chosen (permission_count b) (drop (13 * permission_count b) out)
        (λ q h. shown_few b at q (chosen q) (shown q h)) (λ q h. (shown q h).number) p l)

    group_shown : (p : ℕ) → p < permission_count b → group_for (written out) p ≡ chosen p
    group_shown p l =
        rw (parts_bytes out e)
        (group_at (smallest_of b at) chosen (permission_count b) (drop (13 * permission_count b) out)
        (λ q h. shown_few b at q (chosen q) (shown q h)) (λ q h. (shown q h).number) p l)

    pub shown_parts : length (written out) ≡ 208 →
        Parts (written out) (permission_count b)
    shown_parts n = let few = permissions_few in record {
      size = omega arith;
      few = λ p l. rw (number_shown p l) (shown_few b at p (chosen p) (shown p l));
      rising = λ p l. rw (group_shown p l) (shown_rising b at p (chosen p) (shown p l));
    }

    -- the lines of its parts
    pub shown_lines : lines_text (written out) (permission_count b) ≡
        join_below (permission_count b) (λ p. line_text p (smallest_of b at p) (chosen p))
    unfolding lines_text
    shown_lines =
        join_same (line_at (written out)) (λ p. line_text p (smallest_of b at p) (chosen p))
        (permission_count b) (λ p l. rw (group_shown p l, number_shown p l))

  -- 16 lines of at most 47 bytes
  pub lines_le : length (join_below (permission_count b) (λ p. line_text p (smallest_of b at p) (chosen p))) ≤ 752
  lines_le =
      let few = permissions_few in
      let e = join_length (λ p. line_text p (smallest_of b at p) (chosen p)) (permission_count b) in
      let h = sum_le (λ p. length (line_text p (smallest_of b at p) (chosen p))) 47 (permission_count b)
      (λ p l. shown_line b at p (chosen p) (shown p l) (omega arith)) in
      omega arith

  pub releasable_few : releasable (decision_of b at) (permission_count b) ≤ 16
  unfolding releasable
  releasable_few =
      let few = permissions_few in
      omega (arith, count_le (λ p. ltb 0 (smallest_of b at p)) (permission_count b))
