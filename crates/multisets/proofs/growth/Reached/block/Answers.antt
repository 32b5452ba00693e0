-- Each multiset of the block is pushed on by a row made from the one without its largest role.
use Rattle.std.proofs.Common.{ℕ, suc, ◌+◌, ◌*◌, ◌≤◌, ◌<◌, List, ◌≡◌, length, arith, rules}
use Rattle.multisets.specs.Ranks.{starts, first}
use Rattle.multisets.specs.Ends.{Filled}
use Rattle.multisets.specs.Levels.{Ups, Rows, Pushing}
use Rattle.multisets.proofs.Blocks.{block}
use Rattle.multisets.proofs.Places.{first_le}
use Rattle.multisets.proofs.Rows.{some_here, place, asked, made}
use Rattle.multisets.proofs.growth.Reached.block.Invariants.{Turn}
use Rattle.multisets.proofs.growth.Reached.block.Goals as goal

-- multisets of four roles have their rows
before : (d : ℕ) → first d 5 ≤ first d 6
before d = first_le d 5 6 (omega arith)

module _ {d r less here next count : ℕ} {fixed kept nexts : List ℕ} {j : ℕ} {ends from : List ℕ}
    (turn : Turn d r less here next count fixed kept nexts j ends from) where
  pushing : {t up : List ℕ} → Rows d (first d 6) t → j < count → length up ≡ 8 → Ups 5 (starts 5 r + j) up 0 →
      Pushing d nexts up (here + j) (next + j) ends from
  pushing rows l size ups =
      let e = turn.next_is in
      record {
        n = 5;
        m = starts 5 r + j;
        few = omega arith;
        some = some_here turn.block rows (before d) l;
        place = place turn.block rows (before d) l;
        ahead = omega arith;
        size = size;
        ups = ups;
        filled = turn.filled;
      }

  turn_more : {ends' from' : List ℕ} → Filled d nexts (8 * (here + j) + 8) ends' from' →
      Turn d r less here next count fixed kept nexts (j + 1) ends' from'
  turn_more filled =
      let past : 8 * (here + (j + 1)) ≡ 8 * (here + j) + 8 = omega arith in
      record { block = turn.block; next_is = turn.next_is; filled = rw past filled }

  -- past the last one
  block_end : j ≤ count → count ≤ j → Filled d nexts (8 * (first d 5 + starts 5 (suc r))) ends from
  block_end within past =
      let b = turn.block in
      let e : here + j ≡ first d 5 + starts 5 (suc r) = omega (arith, block 4 r, b.here_is, b.count_is) in
      rw e at turn.filled

pub ups_of-up-requires : goal.ups_of-up-requires
ups_of-up-requires g c =
    let b = c.loop-j.invariant.block in
    asked b c.requires.1 (before c.args.users.now.d) c.loop-j-test.true

pub push-requires : goal.push-requires
push-requires g c =
    let turn = c.loop-j.invariant in
    let l = c.loop-j-test.true in
    let rows = c.requires.1 in
    let ups = made turn.block rows (before c.args.users.now.d) l c.ups_of-up.ensures.1 in
    (search rules, pushing turn rows l c.ups_of-up.ensures.0 ups)

pub loop-j-preserved : goal.loop-j-preserved
loop-j-preserved g c = turn_more c.loop-j.invariant c.push.ensures

pub returns : goal.returns
returns g c = block_end c.loop-j.invariant c.loop-j.auto.j-end c.loop-j-test.false
