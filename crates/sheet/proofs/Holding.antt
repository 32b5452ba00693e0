-- What a sheet's room for six entries says of those that it holds; the sheet that holds given entries, and one more.
use Prim.Native.Nat.{ℕ, ◌+◌, ◌*◌, ◌-◌, ◌/◌, ◌<◌, ◌≤◌}
use mathlib.Core.Path.{◌≡◌, sym, ap, ◌∙◌}
use mathlib.Core.Logic.{⊎_elim}
use mathlib.Core.List.{List, [], ◌∷◌, ◌++◌}
use native.Mathlib.Omega.{arith}
use borrow.Author.Tests.{ltb-false, le-ltb}
use lib.ListN.{length, take, drop, length-append, replicate, length-replicate}
use lib.Seq.{length-take-le, sets, sets-eq, take_at, drop-append-add}
use lib.Dec.{ltb}
use Rattle.folds.proofs.Bools.{met_or_not}
use Rattle.folds.proofs.Lists.{drop-replicate}
use Rattle.decision.specs.Groups.{entry_count}
use Rattle.sheet.specs.Sheets.{held_count, held_on, holding, with_entry}

-- at most six are held
pub held_few : (n : ℕ) → held_count n ≤ 6
held_few n =
    ⊎_elim (λ h. rw h (omega arith)) (λ h. rw h (let l = ltb-false 6 n h in omega arith)) (met_or_not (ltb 6 n))

module _ (n : ℕ) (entries : List ℕ) (size : length entries ≡ 12) where
  pub held_length : length (take (2 * held_count n) entries) ≡ 2 * held_count n
  held_length = let few = held_few n in length-take-le (2 * held_count n) entries (omega (arith, size))

  pub held_entries : entry_count (take (2 * held_count n) entries) ≡ held_count n
  held_entries = omega (arith, held_length)

  -- where fewer than six are held, no more are claimed
  pub room_claimed : entry_count (take (2 * held_count n) entries) < 6 → n < 6
  room_claimed h =
      let l : held_count n < 6 = omega (arith, held_entries, h) in
      ⊎_elim (λ t. absurd (let k : 6 < 6 = rw t at l in omega arith)) (λ t. rw t at l) (met_or_not (ltb 6 n))

-- an entry more in the room behind them
abbrev zeros : ℕ → List ℕ
zeros n = replicate n 0

-- the sheet that holds n given entries
module _ (p : ℕ) (held : List ℕ) (n : ℕ) (size : length held ≡ 2 * n) where
  count_is : length held / 2 ≡ n
  count_is = omega (arith, size)

  pub holding_count : (holding p held).count ≡ n
  unfolding holding
  holding_count = count_is

  pub holding_size : n ≤ 6 → length (holding p held).entries ≡ 12
  unfolding holding
  holding_size few =
      let left : length (zeros (12 - length held)) ≡ 12 - length held = length-replicate _ 0 in
      length-append held (zeros (12 - length held)) ∙ omega (arith, left, size)

  -- holds them
  pub holding_held : n ≤ 6 → held_on (holding p held) ≡ held
  unfolding holding
  holding_held few = rw (count_is, le-ltb 6 n few) (take_at held (zeros (12 - length held)) (2 * n) size)

  -- an entry more in the room behind them
  put_behind : (u r : ℕ) → n < 6 →
      sets (held ++ zeros (12 - 2 * n)) (2 * n) (u ∷ r ∷ []) ≡ held ++ (u ∷ r ∷ []) ++ zeros (12 - (2 * n + 2))
  put_behind u r room =
      let rest : List ℕ = zeros (12 - 2 * n) in
      let all : List ℕ = held ++ rest in
      let long = length-append held rest ∙ ap (λ (k : ℕ). length held + k) (length-replicate (12 - 2 * n) 0) in
      let fits : 2 * n + 2 ≤ length all = omega (arith, long, size) in
      let head : take (2 * n) all ≡ held = take_at held rest (2 * n) size in
      let less : 12 - 2 * n - 2 ≡ 12 - (2 * n + 2) = omega arith in
      let tail : drop (2 * n + 2) all ≡ zeros (12 - (2 * n + 2)) =
      ap (λ (k : ℕ). drop (k + 2) all) (sym size) ∙ drop-append-add held rest 2 ∙ drop-replicate 0 2 (12 - 2 * n)
      ∙ ap zeros less in
      sets-eq (u ∷ r ∷ []) all (2 * n) fits ∙ rw (head, tail)

  pub holding_more : (u r : ℕ) → n < 6 → with_entry (holding p held) u r ≡ holding p (held ++ (u ∷ r ∷ []))
  unfolding holding
  holding_more u r room =
      let long : length (held ++ (u ∷ r ∷ [])) ≡ 2 * n + 2 = omega (arith, length-append held (u ∷ r ∷ []), size) in
      let count : 2 * n / 2 ≡ n = omega arith in
      let one : (2 * n + 2) / 2 ≡ n + 1 = omega arith in
      rw (long, size, count, one, put_behind u r room)
