-- Each multiset of the block gets its row from the one without its largest role.
use Rattle.std.proofs.Common.{ℕ, suc, ◌+◌, ◌*◌, ◌≤◌, ◌<◌, List, ◌≡◌, length, get_or, arith}
use Rattle.multisets.specs.Ranks.{starts, first}
use Rattle.multisets.specs.Values.{Written}
use Rattle.multisets.specs.Levels.{Ups, Rows}
use Rattle.multisets.proofs.Blocks.{block}
use Rattle.multisets.proofs.Rows.{Block, some_here, place, asked, made, rows_more, row_room}
use Rattle.multisets.proofs.growth.add_block.Invariants.{Turn}
use Rattle.multisets.proofs.growth.add_block.Goals as goal

module _ {d n r less here count : ℕ} {fixed kept : List ℕ} {j : ℕ} {t : List ℕ}
    (turn : Turn d n r less here count fixed kept j t) where
  abbrev b : Block d n r less here count fixed kept
  b = turn.block

  before : first d (suc n) ≤ here + j
  before = let e = b.here_is in omega arith

  -- its multiset j
  module _ (few : n ≤ 3) (l : j < count) where
    room : (8 * (here + j) + 8 ≤ length t) × (8 * (here + j) ≤ 100000)
    room = (
      row_room turn.rows (suc n) (starts (suc n) r + j) (omega arith) (some_here b turn.rows before l)
          (place b turn.rows before l),
      omega (arith, l, b.here_most, b.count_most),
    )

    turn_more : {up t' : List ℕ} → Ups (suc n) (starts (suc n) r + j) up 0 →
        Written (λ q. get_or up q 0) (8 * (here + j)) 8 t t' → Turn d n r less here count fixed kept (j + 1) t'
    turn_more {up} u w =
        let one : here + (j + 1) ≡ here + j + 1 = omega arith in
        let rows = rows_more turn.rows (suc n) (starts (suc n) r + j) {up = up} (omega arith)
        (some_here b turn.rows before l) (place b turn.rows before l) u w in
        record { block = b; rows = rw one rows }

  -- past the last one
  block_end : j ≤ count → count ≤ j → Rows d (first d (suc n) + starts (suc n) (suc r)) t
  block_end within past =
      let e : here + j ≡ first d (suc n) + starts (suc n) (suc r) =
      omega (arith, block n r, b.here_is, b.count_is) in
      rw e at turn.rows

pub ups_of-up-requires : goal.ups_of-up-requires
ups_of-up-requires c =
    let turn = c.loop-j.invariant in
    asked turn.block turn.rows (before turn) c.loop-j-test.true

pub keep_row-requires : goal.keep_row-requires
keep_row-requires c = room c.loop-j.invariant c.requires.0 c.loop-j-test.true

pub loop-j-preserved : goal.loop-j-preserved
loop-j-preserved c =
    let turn = c.loop-j.invariant in
    let l = c.loop-j-test.true in
    turn_more turn c.requires.0 l (made turn.block turn.rows (before turn) l c.ups_of-up.ensures.1) c.keep_row.ensures

pub returns : goal.returns
returns c = block_end c.loop-j.invariant c.loop-j.auto.j-end c.loop-j-test.false
