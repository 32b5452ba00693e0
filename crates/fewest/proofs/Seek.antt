-- What the search is handed suffices for the masks and for the search by masks.
use Prim.Native.Nat.{ℕ, ◌+◌, ◌-◌, ◌*◌, ◌^◌, ◌<◌, ◌≤◌}
use mathlib.Core.Bool.{false, and-false}
use mathlib.Core.Path.{◌≡◌, refl}
use mathlib.Core.Logic.{⊎_elim}
use mathlib.Core.List.{List, [], ◌∷◌}
use native.Mathlib.Omega.{arith}
use native.Mathlib.Nat.{mul-le-mul, le_refl, eq-zero-or-pos}
use borrow.Author.Tests.{leb-true, leb-false}
use lib.Dec.{leb, ltb}
use lib.ListN.{length}
use Rattle.folds.proofs.Bools.{met_or_not}
use Rattle.reader.specs.Tables.{clauses, record_count}
use Rattle.multisets.specs.Rising.{Entry, Rises, entries_sum, entries_roles}
use Rattle.multisets.specs.Ends.{NextEnds}
use Rattle.seek.specs.Search.{Ready, Answered}
use Rattle.masks.specs.declared.Placed.{Placed}
use Rattle.masks.specs.declared.Weighed.{Weighed}
use Rattle.masks.specs.Clauses.{clauses_of}
use Rattle.masks.specs.Masks.{Masks}
use Rattle.masks.specs.Masks as masks
use Rattle.masks.proofs.Telling.{bare}
use Rattle.fewest.specs.Search.{holds_with, WeighedBelow, Seeking}
use Rattle.fewest.proofs.Asked.{Telling, LastOrNone, fewest_none}

module _ {k w : List ℕ} {start : Placed} {d : ℕ} {counts : List ℕ} (s : Seeking k w start d counts) where
  -- all sums are at most 240
  pub sum_few : start.sum ≤ 240
  sum_few = let a = s.sum in let b = s.few in omega arith

  module _ {v : Weighed} (weighed : WeighedBelow w 8 v) where
    end_le : v.end ≤ d
    end_le = ⊎_elim
        (λ z. omega arith)
        (λ h.
        let l = weighed.within in
        let m = s.roles (v.end - 1) (omega arith) (weighed.last h) in
        omega arith)
        (eq-zero-or-pos v.end)

    top_le : start.sum + (6 - start.count) * v.heavy ≤ 240
    top_le =
        let a = s.sum in
        let b = s.few in
        let c : (6 - start.count) * v.heavy ≤ (6 - start.count) * 40 =
        mul-le-mul (le_refl (6 - start.count)) weighed.most in
        omega arith

    pub masks_ready : {own : ℕ} → own < 2 ^ record_count clauses k → masks.Ready k own v start counts
    masks_ready own_lt = record {
      table = s.checked;
      own_lt = own_lt;
      light_le = weighed.ordered;
      placed_le = s.few;
      top_le = top_le;
      roles = d;
      roles_le = s.most;
      end_le = end_le;
      placed_roles = s.acted;
      counted = s.counted;
    }

    module _ {own : ℕ} {sums sets rows : List ℕ} (m : Masks k own w v start sums sets rows) where
      pub search_ready : {users nexts : List ℕ} {end : ℕ} → end ≡ v.end → NextEnds users nexts →
          Ready d end w nexts sums sets
      search_ready {users} e next = rw e (record {
        most = s.most;
        end_most = end_le;
        light = s.light;
        users = users;
        next_ends = next;
        asked = record { heavy = weighed.before; light = m.kept };
        sum_masks = m.sums_size;
        set_masks = m.sets_size;
      })

      pub telling : {p : ℕ} → own ≡ clauses_of k p → Telling k p w v start sums sets rows
      telling {p} is = record { tells = m.tells p is; nobody = λ z. m.none 0 (omega arith); past = m.past }

      -- the last row asks for at most six entries in all
      last_few : {last : ℕ} → LastOrNone rows last → start.count + last ≤ 6
      last_few {last} r = ⊎_elim
          (λ h. leb-true _ _ h)
          (λ h.
          let l = leb-false _ _ h in
          ⊎_elim
          (λ z. absurd (omega (arith, s.few)))
          (λ some. absurd (r.some some (m.past last l)))
          (eq-zero-or-pos last))
          (met_or_not (leb (start.count + last) 6))

      pub last_sum : {last : ℕ} → LastOrNone rows last → start.sum + last * 40 ≤ 255
      last_sum r = let a = s.sum in omega (arith, last_few r)

  -- without a clause nothing is found
  pub no_clause : (p : ℕ) {last : ℕ} {sets bytes : List ℕ} → clauses_of k p ≡ 0 →
      Answered sets w start.sum (holds_with k p start) last 7 bytes
  no_clause p z = fewest_none
      (λ g rises l. rw (bare k p z (start.count + length g) _ _) (and-false (ltb 0 (start.count + length g))))

  -- nor with nobody placed and without weight
  pub no_weight : (p : ℕ) {last : ℕ} {sets bytes : List ℕ} {v : Weighed} → WeighedBelow w 8 v →
      v.heavy + start.count ≡ 0 →
      Answered sets w start.sum (holds_with k p start) last 7 bytes
  no_weight p {sets = sets} {v = v} weighed z = fewest_none (λ g rises l. none g rises)
    where
      none : (g : List Entry) → Rises sets w 0 g →
          holds_with k p start (length g) (start.sum + entries_sum w g) (entries_roles g) ≡ false
      none [] rises = let e : start.count + 0 ≡ 0 = omega arith in rw e refl
      none (e ∷ g) rises =
          let m = rises.1 in
          let a = weighed.heavy e.role m.role in
          let b = m.heavy in
          absurd (omega arith)
