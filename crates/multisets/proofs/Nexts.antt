-- The table of next ends, from the last user to the first.
use Prim.Native.Nat.{ℕ, ◌+◌, ◌*◌, ◌/◌, ◌%◌, ◌<◌, ◌≤◌}
use mathlib.Core.Bool.{true, false}
use mathlib.Core.Path.{◌≡◌}
use mathlib.Core.Logic.{⊎_elim}
use mathlib.Core.List.{List}
use native.Mathlib.Omega.{arith}
use native.Mathlib.Nat.{le_refl, lt_irrefl, eq-or-lt_of_le}
use borrow.Author.Tests.{eqb-true, eqb-false}
use lib.Dec.{eqb}
use lib.ListN.{length, get_or, set, replicate, get_or-replicate}
use lib.Seq.{get_or-set_same, get_or-set_other}
use Rattle.folds.specs.Sets.{in_set}
use Rattle.folds.proofs.Bools.{met_or_not, clash}
use Rattle.folds.proofs.Sets.{in_none}
use Rattle.multisets.specs.Ends.{NextEnd, NextEnds, NextTable}

module _ (sets : List ℕ) (users : length sets ≡ 24) where
  -- the user at the place may act in the role
  pub end_here : (from r end : ℕ) → from < 24 → in_set (get_or sets from 0) r ≡ true → end ≡ from + 1 →
      NextEnd sets from r end
  end_here from r end l acting is = record {
    some = λ h. (
      from,
      rw users l,
      is,
      record {
        low = le_refl from;
        high = omega arith;
        found = λ k. acting;
        first = λ v a b. absurd (omega arith);
      },
    );
    none = λ h. absurd (omega arith);
  }

  -- the user may not: a later one is the next
  pub end_later : (from r end : ℕ) → in_set (get_or sets from 0) r ≡ false → NextEnd sets (from + 1) r end →
      NextEnd sets from r end
  end_later from r end not_acting later = record {
    some = λ h.
        let (u, user, is, n) = later.some h in
        let low = n.low in (
          u,
          user,
          is,
          record {
            low = omega arith;
            high = n.high;
            found = n.found;
            first = λ v a b. ⊎_elim (λ q. rw (← q) not_acting) (λ k. n.first v (omega arith) b) (eq-or-lt_of_le a);
          },
        );
    none = λ h u user n. ⊎_elim
        (λ q. clash (in_set (get_or sets u 0) r) (n.found user) (rw (← q) not_acting))
        (λ k. later.none h u user (record {
          low = omega arith;
          high = n.high;
          found = n.found;
          first = λ v a b. n.first v (omega arith) b;
        }))
        (eq-or-lt_of_le n.low);
  }

  -- behind the last user there is none
  pub ends_start : (users : ℕ) → users ≤ 24 → ((u : ℕ) → users ≤ u → get_or sets u 0 ≡ 0) →
      (from r : ℕ) → from ≤ 24 → r < 8 → 8 * users ≤ 8 * from + r →
      NextEnd sets from r (get_or (replicate 200 255) (8 * from + r) 0)
  ends_start count few none from r l role past =
      rw (get_or-replicate {A = ℕ} 200 (8 * from + r) 255 0 (omega arith)) (record {
        some = λ h. absurd (lt_irrefl 255 h);
        none = λ h u user n.
            let low = n.low in
            let idle : in_set (get_or sets u 0) r ≡ false = rw (none u (omega arith)) (in_none r) in
            clash (in_set (get_or sets u 0) r) (n.found user) idle;
      })

  -- the ends from a place and role on, with one more
  pub ends_more : (ends : List ℕ) (at end : ℕ) → length ends ≡ 200 → at < 192 →
      ((from r : ℕ) → from ≤ 24 → r < 8 → at + 1 ≤ 8 * from + r → NextEnd sets from r (get_or ends (8 * from + r) 0)) →
      (NextEnd sets (at / 8 + 1) (at % 8) (get_or ends (at + 8) 0) → NextEnd sets (at / 8) (at % 8) end) →
      (from r : ℕ) → from ≤ 24 → r < 8 → at ≤ 8 * from + r →
      NextEnd sets from r (get_or (set ends at end) (8 * from + r) 0)
  ends_more ends at end size small known step from r l role past = ⊎_elim
      (λ t.
      let q : 8 * from + r ≡ at = eqb-true _ _ t in
      let a : at / 8 ≡ from = omega arith in
      let b : at % 8 ≡ r = omega arith in
      let c : 8 * (at / 8 + 1) + at % 8 ≡ at + 8 = omega arith in
      let later = known (at / 8 + 1) (at % 8) (omega arith) (omega arith) (omega arith) in
      rw (q, get_or-set_same ends at end 0 (omega arith), ← a, ← b) (step (rw c at later)))
      (λ t.
      let d = eqb-false (8 * from + r) at t in
      rw (get_or-set_other ends at (8 * from + r) end 0 d) (known from r l role (omega (arith, d))))
      (met_or_not (eqb (8 * from + r) at))

-- each is 255 or that of a user
pub next_table : (sets ends : List ℕ) → NextEnds sets ends → NextTable ends
next_table sets ends n = record {
  size = n.size;
  within = λ i l h. at i (i / 8) (i % 8) (omega arith) (omega arith) (omega arith) h;
}
  where
    bound : (from r v : ℕ) → NextEnd sets from r v → v < 255 → v ≤ 24
    bound from r v e h = let (u, user, is, x) = e.some h in let k = n.users in omega arith

    at : (i from r : ℕ) → i ≡ 8 * from + r → from ≤ 24 → r < 8 → get_or ends i 0 < 255 → get_or ends i 0 ≤ 24
    at i from r q a b h = rw q (bound from r _ (n.end from r a b) (rw q at h))
