-- The loop passes the tables that are in their places: `at` is where the next one has to start. What a turn finds is
-- argued of plain values.
use Rattle.std.proofs.Common.{ℕ, ◌+◌, ◌*◌, ◌<◌, ◌≤◌, true, false, List, ◌≡◌, sym, eqb, slice_index_or, arith, rules}
use mathlib.Core.Bool.{not}
use borrow.Author.Tests.{ne_eqb, eq-eqb, lt-ltb, le-ltb}
use Rattle.folds.proofs.Tests.{any_none, any_more, any_found}
use Rattle.folds.proofs.Numbers.{sum_none, sum_more}
use Rattle.reader.specs.Tables.{width, limit, trailer, table_offset, table_count, table_size, table_start}
use Rattle.reader.specs.Tables.{table_bad, tables_bad}
use Rattle.reader.specs.declared.trailer.TheConstants.{ROOMS}
use Rattle.reader.proofs.Frame.{records_size}
use Rattle.reader.proofs.trailer.Trailer.tables_bad.Invariants.{Turn}
use Rattle.reader.proofs.trailer.Trailer.tables_bad.Goals as goal
use Rattle.reader.proofs.trailer.Trailer.tables_bad.Goals.{then-room-place-via-then-room-place}
use Rattle.reader.proofs.trailer.Trailer.tables_bad.Goals.{then-room-place-via-else-room-place+then-place-at}

-- a room of the table of rooms
width_is : (t : ℕ) → t < 7 → (slice_index_or ROOMS t (record { width = 0; limit = 0 })).width ≡ width t
width_is t there = search rules

limit_is : (t : ℕ) → t < 7 → (slice_index_or ROOMS t (record { width = 0; limit = 0 })).limit ≡ limit t
limit_is t there = search rules

first : (b : List ℕ) → Turn b 0 0
unfolding table_start
first b =
    record { within = omega arith; small = omega arith; at_is = sym (sum_none (table_size b)); fine = any_none _ }

found : (b : List ℕ) (t : ℕ) → t < 7 → table_bad b t ≡ true → true ≡ tables_bad b
unfolding tables_bad
found b t there h = rw (any_found (table_bad b) 7 t there h)

-- a turn, of plain values: table t's count and limit
module _ {b : List ℕ} {at t n most : ℕ} (turn : Turn b at t) (there : t < 7)
    (n_is : n ≡ table_count b t) (most_is : most ≡ limit t) where
  over : most < n → true ≡ tables_bad b
  over h = found b t there (rw (← n_is, ← most_is, lt-ltb _ _ h))

  -- and its offset
  module _ (few : n ≤ most) {offset : ℕ} (offset_is : offset ≡ table_offset b t) where
    apart : (offset ≡ at → ⊥) → true ≡ tables_bad b
    apart h = found b t there (rw (← n_is, ← most_is, le-ltb _ _ few, ← offset_is, ← turn.at_is, ne_eqb _ _ h))

    in_place : offset ≡ at → table_bad b t ≡ false
    in_place h = rw (← n_is, ← most_is, le-ltb _ _ few, ← offset_is, ← turn.at_is, eq-eqb _ _ h)

size : {t n most w : ℕ} → t < 7 → n ≤ most → most ≡ limit t → w ≡ width t → n * w ≤ 1024
size {t} {n} there few most_is w_is = rw w_is (records_size t n there (rw most_is at few))

again : {b : List ℕ} {at t n w : ℕ} → Turn b at t → t < 7 → table_bad b t ≡ false → n * w ≤ 1024 →
    n ≡ table_count b t → w ≡ width t → Turn b (at + n * w) (t + 1)
unfolding table_start
again {b} {at} {t} turn there fine most n_is w_is =
    let s = turn.small in
    record {
      within = omega arith;
      small = omega arith;
      at_is = rw (sum_more (table_size b) t, ← n_is, ← w_is, turn.at_is);
      fine = any_more _ t turn.fine fine;
    }

last : {b : List ℕ} {at t : ℕ} → Turn b at t → 7 ≤ t → not (eqb at (trailer b)) ≡ tables_bad b
unfolding tables_bad
last {t = t} turn past =
    let w = turn.within in
    let e : t ≡ 7 = omega arith in
    rw (rw e at turn.fine, ← e, ← turn.at_is)

pub loop-t-init : goal.loop-t-init
loop-t-init c = first _

pub returns-then-room-place : goal.returns-then-room-place
returns-then-room-place c =
    let turn = c.loop-t.invariant in
    let there = c.loop-t-test.true in
    let n_is = c.place-place.ensures.count.0 in
    let most_is = limit_is _ there in
    elim c.then-room-place.branch [
      | then-room-place-via-then-room-place w ↦ over turn there n_is most_is w.if-room-place.true
      | then-room-place-via-else-room-place+then-place-at w ↦
          apart turn there n_is most_is w.if-room-place.false c.place-place.ensures.offset.0 w.if-place-at.true
    ]

pub loop-t-preserved : goal.loop-t-preserved
loop-t-preserved c =
    let turn = c.loop-t.invariant in
    let there = c.loop-t-test.true in
    let n_is = c.place-place.ensures.count.0 in
    let most_is = limit_is _ there in
    let w_is = width_is _ there in
    let few = c.if-room-place.false in
    again turn there
    (in_place turn there n_is most_is few c.place-place.ensures.offset.0 c.if-place-at.false)
    (size there few most_is w_is) n_is w_is

pub returns : goal.returns
returns c = rw c.self.view_is (last c.loop-t.invariant c.loop-t-test.false)
