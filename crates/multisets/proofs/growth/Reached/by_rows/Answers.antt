-- Each multiset of the level is pushed on by its row.
use Rattle.std.proofs.Common.{ℕ, suc, ◌+◌, ◌-◌, ◌*◌, ◌≤◌, ◌<◌, List, ◌≡◌, length, take, drop, arith, rules}
use Rattle.multisets.specs.Ranks.{starts, first}
use Rattle.multisets.specs.Ends.{Filled}
use Rattle.multisets.specs.Levels.{Rows, Pushing}
use Rattle.multisets.proofs.Places.{first_le, first_more, place_lt}
use Rattle.multisets.proofs.Rows.{cut_ups, cut_length}
use Rattle.multisets.proofs.growth.Reached.by_rows.Goals as goal

module _ {d n here count m : ℕ} {t nexts ends from : List ℕ} (few : n ≤ 4) (rows : Rows d (first d (suc n)) t)
    (here_is : here ≡ first d n) (count_is : count ≡ starts n d) where
  module _ (l : m < count) (filled : Filled d nexts (8 * (here + m)) ends from) where
    some : m < starts n d
    some = rw count_is at l

    row_room : 8 * (here + m) + 8 ≤ length t
    row_room = omega (arith, here_is, rows.room, place_lt d n m some, first_le d (suc n) 5 (omega arith))

    pushing : Pushing d nexts (take (8 * (here + m) + 8 - 8 * (here + m)) (drop (8 * (here + m)) t)) (here + m)
        (here + count + m) ends from
    pushing =
        let row = rows.row n m few some (place_lt d n m some) in
        record {
          n = n;
          m = m;
          few = omega arith;
          some = some;
          place = rw here_is;
          ahead = omega (arith, here_is, count_is, first_more d n);
          size = cut_length (8 * (here + m)) t row_room;
          ups = cut_ups (8 * (here + m)) t (rw (← here_is) at row);
          filled = filled;
        }

  level_end : m ≤ count → count ≤ m → Filled d nexts (8 * (here + m)) ends from →
      Filled d nexts (8 * first d (suc n)) ends from
  level_end within past filled =
      let e : here + m ≡ first d (suc n) = omega (arith, here_is, count_is, first_more d n) in
      rw e at filled

pub slice_bounds-push-end : goal.slice_bounds-push-end
slice_bounds-push-end g c =
    let (few, rows, led) = c.requires in
    let l = c.loop-m-test.true in
    let room = row_room few rows c.first_in-here.ensures.0 c.start_in-count.ensures.0 l c.loop-m.invariant in
    search rules

pub push-requires : goal.push-requires
push-requires g c =
    let (few, rows, led) = c.requires in
    let l = c.loop-m-test.true in
    (search rules, pushing few rows c.first_in-here.ensures.0 c.start_in-count.ensures.0 l c.loop-m.invariant)

pub returns : goal.returns
returns g c =
    let (few, rows, led) = c.requires in
    level_end few rows c.first_in-here.ensures.0 c.start_in-count.ensures.0 c.loop-m.auto.m-end c.loop-m-test.false
    c.loop-m.invariant
