-- The rows: how far the rank of a multiset lies behind with each role more, from the row without its largest role.
use Prim.Native.Nat.{ℕ, zero, suc, ◌+◌, ◌-◌, ◌*◌, ◌<◌, ◌≤◌}
use mathlib.Core.Path.{◌≡◌, ◌∙◌}
use mathlib.Core.Logic.{⊎_elim}
use mathlib.Core.List.{List}
use native.Mathlib.Omega.{arith}
use native.Mathlib.Nat.{lt_of_lt_of_le, zero-add}
use borrow.Author.Tests.{ltb-true, ltb-false, eqb-true, eqb-false}
use lib.Dec.{ltb, eqb}
use lib.ListN.{length, get_or, take, drop, length-drop}
use lib.Seq.{get_or-drop}
use Rattle.std.proofs.lemmas.List.{get_or-take, length-take}
use Rattle.folds.proofs.Bools.{met_or_not}
use Rattle.multisets.specs.Ranks.{starts, first, more}
use Rattle.multisets.specs.Values.{Written}
use Rattle.multisets.specs.Levels.{Ups, Rows, Fixed, Kept}
use Rattle.multisets.proofs.Blocks.{block, starts_le, starts_none}
use Rattle.multisets.proofs.Blocks.{more_low, more_high, more_lt, more_none}
use Rattle.multisets.proofs.Places.{first_more, first_le, first_all, place_lt, one_level}

-- a role more makes no fewer multisets
pub starts_more : (n d : ℕ) → starts (suc n) d ≤ starts (suc (suc n)) d
starts_more n zero = rw (starts_none n, starts_none (suc n)) (omega arith)
starts_more n (suc d) = omega (arith, block (suc n) d)

-- there are at most 3,003 multisets of n roles
starts_most : (n : ℕ) → n ≤ 6 → starts n 8 ≤ 3003
starts_most n h = omega (arith, first_more 8 n, first_le 8 (suc n) 7 (omega arith), first_all 8 (omega arith))

-- a multiset of n + 1 roles whose largest is r, from the row of j, that multiset without r
module _ {n r j at : ℕ} {t fixed kept : List ℕ} (few : n ≤ 4) (role : r < 8) (some : j < starts n (suc r))
    (ups : Ups n j t at) (f : Fixed n r fixed) (k : Kept r kept) where
  low : j < starts n 8
  low = lt_of_lt_of_le some (starts_le n (suc r) 8 role)

  less_most : (q : ℕ) → q < 8 → get_or t (at + q) 0 ≤ 3003
  less_most q h =
      let e = ups.role q h in
      omega (arith, more_lt n j q low h 8 low h, starts_most (suc n) (omega arith))

  pub step_most : (q : ℕ) → q < 8 → get_or fixed q 0 + get_or t (at + q) 0 * get_or kept q 0 ≤ 6006
  step_most q h = ⊎_elim
      (λ b. rw (k.below q (ltb-true q r b) h) (omega (arith, f.most q h, less_most q h)))
      (λ b. rw (k.above q (ltb-false q r b) h) (omega (arith, f.most q h)))
      (met_or_not (ltb q r))

  pub row_made : (up : List ℕ) →
      ((q : ℕ) → q < 8 → get_or up q 0 ≡ get_or fixed q 0 + get_or t (at + q) 0 * get_or kept q 0) →
      Ups (suc n) (starts (suc n) r + j) up 0
  row_made up is = record { role = λ q h. rw (zero-add q, is q h) (made q h) }
    where
      made : (q : ℕ) → q < 8 →
          get_or fixed q 0 + get_or t (at + q) 0 * get_or kept q 0 + (starts (suc n) r + j)
          ≡ more (suc n) (starts (suc n) r + j) q
      made q h = ⊎_elim
          (λ b.
          let l = ltb-true q r b in
          rw (k.below q l h, more_low n r j role some q l) (omega (arith, f.below q l h, ups.role q h)))
          (λ b.
          let l = ltb-false q r b in
          rw (k.above q l h, more_high n r j role some q l) (omega (arith, f.above q l h)))
          (met_or_not (ltb q r))

-- the multisets of n + 1 roles below d whose largest is r: where those of n roles and they start, how many they are,
-- and of what their rows are made
pub record Block (d n r less here count : ℕ) (fixed kept : List ℕ) : Type 0 where
  pub most : d ≤ 8
  pub few : n ≤ 4
  pub role : r < d
  pub less_is : less ≡ first d n
  pub here_is : here ≡ first d (suc n) + starts (suc n) r
  pub count_is : count ≡ starts n (suc r)
  pub less_most : less ≤ 3003
  pub here_most : here ≤ 6006
  pub count_most : count ≤ 3003
  pub fixed_is : Fixed n r fixed
  pub kept_is : Kept r kept

-- multiset j of the block, where those of n roles have their rows
module _ {d n r less here count : ℕ} {fixed kept : List ℕ} (b : Block d n r less here count fixed kept)
    {k : ℕ} {t : List ℕ} (rows : Rows d k t) (before : first d (suc n) ≤ k) {j : ℕ} (l : j < count) where
  role_eight : r < 8
  role_eight = lt_of_lt_of_le b.role b.most

  some : j < starts n (suc r)
  some = rw b.count_is at l

  some_less : j < starts n d
  some_less = lt_of_lt_of_le some (starts_le n (suc r) d b.role)

  pub some_here : starts (suc n) r + j < starts (suc n) d
  some_here = omega (arith, some, block n r, starts_le (suc n) (suc r) d b.role)

  pub place : here + j ≡ first d (suc n) + (starts (suc n) r + j)
  place = let e = b.here_is in omega arith

  ups_less : Ups n j t (8 * (less + j))
  ups_less = rw b.less_is (rows.row n j b.few some_less (omega (arith, place_lt d n j some_less)))

  less_room : 8 * (less + j) + 8 ≤ length t
  less_room =
      let e = b.less_is in
      let few = b.few in
      omega (arith, rows.room, place_lt d n j some_less, first_le d (suc n) 5 (omega arith))

  pub asked : (8 * (less + j) + 8 ≤ length t) × (8 * (less + j) ≤ 100000)
      × ((q : ℕ) → q < 8 → get_or fixed q 0 + get_or t (8 * (less + j) + q) 0 * get_or kept q 0 ≤ 6006)
  asked = (
    less_room,
    omega (arith, l, b.less_most, b.count_most),
    step_most b.few role_eight some ups_less b.fixed_is b.kept_is,
  )

  pub made : {up : List ℕ} →
      ((q : ℕ) → q < 8 → get_or up q 0 ≡ get_or fixed q 0 + get_or t (8 * (less + j) + q) 0 * get_or kept q 0) →
      Ups (suc n) (starts (suc n) r + j) up 0
  made {up} is = row_made b.few role_eight some ups_less b.fixed_is b.kept_is up is

-- a row, cut out
module _ (at : ℕ) (t : List ℕ) where
  pub cut_ups : {n m : ℕ} → Ups n m t at → Ups n m (take (at + 8 - at) (drop at t)) 0
  cut_ups ups = record {
    role = λ q h.
        let e = get_or-take (at + 8 - at) (drop at t) q 0 (omega arith) ∙ get_or-drop at t q 0 in
        rw (zero-add q, e) (ups.role q h);
  }

  pub cut_length : at + 8 ≤ length t → length (take (at + 8 - at) (drop at t)) ≡ 8
  cut_length h = omega (arith, length-take (at + 8 - at) (drop at t), length-drop at t)

-- the row of the empty multiset
pub row_none : (up : List ℕ) → ((q : ℕ) → q < 8 → get_or up q 0 ≡ q) → Ups 0 0 up 0
row_none up is = record { role = λ q h. rw (zero-add q, is q h, more_none 0 q) (omega arith) }

-- one row more
module _ {d k : ℕ} {t : List ℕ} (rows : Rows d k t) where
  pub rows_more : (n m : ℕ) {up t' : List ℕ} → n ≤ 4 → m < starts n d → k ≡ first d n + m → Ups n m up 0 →
      Written (λ q. get_or up q 0) (8 * k) 8 t t' → Rows d (k + 1) t'
  rows_more n m {up} {t'} few some is ups w = record { room = rw w.size rows.room; row = row }
    where
      row : (a b : ℕ) → a ≤ 4 → b < starts a d → first d a + b < k + 1 → Ups a b t' (8 * (first d a + b))
      row a b four low l = ⊎_elim
          (λ e.
          let s : first d a + b ≡ k = eqb-true _ _ e in
          let v : first d a + b ≡ first d n + m = s ∙ is in
          let x : a ≡ n = one_level d a b n m low some v in
          let y : b ≡ m = (let z = rw x at v in omega arith) in
          record { role = λ q h. rw (s, x, y, w.here q h) (rw (zero-add q) at (ups.role q h)) })
          (λ e.
          let ne = eqb-false (first d a + b) k e in
          let before = rows.row a b four low (omega (arith, ne)) in
          record { role = λ q h. rw (w.before (8 * (first d a + b) + q) (omega (arith, ne))) (before.role q h) })
          (met_or_not (eqb (first d a + b) k))

  pub rows_before : {l : ℕ} → l ≤ k → Rows d l t
  rows_before before = record {
    room = rows.room;
    row = λ n m few some h. rows.row n m few some (omega arith);
  }

  -- rows of five roles are not kept
  pub rows_past : (l : ℕ) → first d 5 ≤ k → Rows d l t
  rows_past l past = record {
    room = rows.room;
    row = λ n m few some h.
        rows.row n m few some (omega (arith, place_lt d n m some, first_le d (suc n) 5 (omega arith)));
  }

  -- room for a row
  pub row_room : (n m : ℕ) → n ≤ 4 → m < starts n d → k ≡ first d n + m → 8 * k + 8 ≤ length t
  row_room n m few some is = omega (arith, rows.room, place_lt d n m some, first_le d (suc n) 5 (omega arith))
