-- Block by block, for each largest role.
use Rattle.std.proofs.Common.{ℕ, suc, ◌+◌, ◌≤◌, ◌<◌, List, ◌≡◌, length, get_or, refl, arith}
use Rattle.multisets.specs.Ranks.{starts, first}
use Rattle.multisets.specs.Values.{Held, Written}
use Rattle.multisets.proofs.Places.{first_all}
use Rattle.multisets.proofs.Holding.{block_reads, block_place, block_room, block_apart, block_written}
use Rattle.multisets.proofs.Holding.{level_start, level_end}
use Rattle.multisets.proofs.Reading.{Read, read}
use Rattle.multisets.proofs.values.next_level.Goals as goal

-- the block of role r, of plain values
module _ {d end n r : ℕ} {value : ℕ → ℕ → ℕ} {t : List ℕ}
    (held : Held d end value t (first d (suc n) + starts (suc n) r))
    (few : n ≤ 5) (most : d ≤ 8) (low : end ≤ d) (role : r < end)
    {before here start count : ℕ} (b : Read d n r before here start count) where
  -- what is read is the value of a role less
  reads : (j : ℕ) → j < count → get_or t (before + j) 0 ≡ value n j
  reads j l = rw b.before_is (block_reads low held few role j (rw b.count_is at l))

  places : (before + count ≤ here + start) × (here + start + count ≤ length t) × (here + start + count ≤ 65535)
  places =
      let room = block_room low held few role in
      let apart = block_apart low held few role in
      (omega arith, omega arith, omega (arith, block_place low held few role, first_all d most))

  block_more : {g : ℕ → ℕ} {t' : List ℕ} → Written g (here + start) count t t' →
      ((j : ℕ) → j < count → g j ≡ value (suc n) (starts (suc n) r + j)) →
      Held d end value t' (first d (suc n) + starts (suc n) (r + 1))
  block_more written right =
      let one : r + 1 ≡ suc r = omega arith in
      let at : here + start ≡ first d (suc n) + starts (suc n) r = omega (arith, b.here_is, b.start_is) in
      let all = λ (j : ℕ) (l : j < starts n (suc r)). right j (rw b.count_is l) in
      rw one (block_written low held few role b.count_is (rw at at written) all)

pub loop-r-init : goal.loop-r-init
loop-r-init g c = λ value held steps. level_start c.requires.2 c.args.n held

pub write_block-requires : goal.write_block-requires
write_block-requires g c =
    let p = c.requires in
    let (value, held, steps) = p.3 in
    let b = read c.first_in-before.ensures.0 c.first_in-here.ensures.0 c.start_in.ensures.0
    c.start_in-in-loop-r.ensures.0 in
    let now = c.loop-r.invariant value held steps in
    let role = c.loop-r-test.true in
    let (apart, room, small) = places now p.0 p.1 p.2 role b in (
      apart,
      room,
      small,
      λ j l.
          let is = reads now p.0 p.1 p.2 role b j l in
          rw is (steps.asks c.loop-r.r-counter j role (rw b.count_is at l)),
    )

pub loop-r-preserved : goal.loop-r-preserved
loop-r-preserved g c = λ value held steps.
    let p = c.requires in
    let b = read c.first_in-before.ensures.0 c.first_in-here.ensures.0 c.start_in.ensures.0
    c.start_in-in-loop-r.ensures.0 in
    let now = c.loop-r.invariant value held steps in
    let role = c.loop-r-test.true in
    let r = c.loop-r.r-counter in
    let made = λ (j : ℕ). value (suc c.args.n) (starts (suc c.args.n) r + j) in
    let written = c.write_block.ensures made (λ j y l called.
    let is = reads now p.0 p.1 p.2 role b j l in
    steps.makes r j y role (rw b.count_is at l) (rw is at called)) in
    block_more now p.0 p.1 p.2 role b written (λ j l. refl)

pub returns : goal.returns
returns g c = λ value held steps.
    let e : c.loop-r.r-counter ≡ c.args.end = omega arith in
    level_end c.requires.2 (suc c.args.n) (rw e at (c.loop-r.invariant value held steps))
