-- The sum of no role is what is placed; a level's sums come from the level before.
use Rattle.std.proofs.Common.{ℕ, suc, ◌+◌, ◌-◌, ◌*◌, ◌≤◌, ◌<◌, List, ◌≡◌, sym, length, get_or, arith, rules}
use lib.ListN.{set}
use native.Mathlib.Nat.{add-zero, lt_of_lt_of_le}
use Rattle.multisets.specs.Ranks.{starts, first}
use Rattle.multisets.specs.Values.{Held, Light, sum_at}
use Rattle.multisets.proofs.Blocks.{starts_le, total_none, total_block, total_le}
use Rattle.multisets.proofs.Places.{first_1, first_le}
use Rattle.multisets.proofs.Holding.{held_none}
use Rattle.multisets.proofs.values.sum_level.Goals as goal

module _ {d end : ℕ} (w : List ℕ) (placed n : ℕ) (t : List ℕ) (held : Held d end (sum_at w placed) t (first d n)) where
  room : 0 < length t
  room = omega (arith, held.room, first_1 d, first_le d 1 7 (omega arith))

  -- the sum of no role is what is placed before
  begun : n ≡ 0 → end ≤ d → Held d end (sum_at w placed) (set t 0 placed) (first d (suc n))
  begun e low =
      let none : sum_at w placed 0 0 ≡ placed = rw (total_none (λ r. get_or w r 0) 0) (add-zero placed) in
      rw e (held_none d end (sum_at w placed) t placed low held.room (sym none))

-- a role more, the largest
module _ (n : ℕ) {end r j : ℕ} {w : List ℕ} (placed : ℕ) (light : Light w) (few : end ≤ 8) (role : r < end)
    (some : j < starts n (suc r)) where
  small : placed + suc n * 40 ≤ 255 → sum_at w placed n j + get_or w r 0 ≤ 255
  small most =
      let there : j < starts n end = lt_of_lt_of_le some (starts_le n (suc r) end role) in
      let most_sum = total_le (λ k. get_or w k 0) 40 end few (λ k h. light.most k (omega arith)) n j there in
      omega (arith, most_sum, light.most r (omega arith))

  more : sum_at w placed n j + get_or w r 0 ≡ sum_at w placed (suc n) (starts (suc n) r + j)
  more = omega (arith, total_block n r j (omega arith) some (λ k. get_or w k 0))

pub bounds-t-0 : goal.bounds-t-0
bounds-t-0 c = let some = room c.args.weighing.w c.args.weighing.placed _ _ c.requires.4 in search rules

pub returns-then-n-eq0 : goal.returns-then-n-eq0
returns-then-n-eq0 c = begun c.args.weighing.w c.args.weighing.placed _ _ c.requires.4 c.if-n-eq0.true c.requires.2

pub next_level-requires : goal.next_level-requires
next_level-requires c =
    let p = c.requires in
    let placed = c.args.weighing.placed in
    let light = c.args.weighing.light in
    let n : ℕ = c.args.n - 1 in
    let up : suc n ≡ c.args.n = omega (arith, c.if-n-eq0.false) in
    let few : c.args.weighing.end ≤ 8 = omega arith in (
      omega (arith, p.0),
      p.1,
      p.2,
      (
        sum_at c.args.weighing.w placed,
        rw up p.4,
        record {
          asks = λ r j role some. let s = small n placed light few role some (rw up p.3) in search rules;
          makes = λ r j y role some called. let e = more n placed light few role some in search rules;
        },
      ),
    )

pub returns : goal.returns
returns c =
    let p = c.requires in
    let placed = c.args.weighing.placed in
    let light = c.args.weighing.light in
    let n : ℕ = c.args.n - 1 in
    let up : suc n ≡ c.args.n = omega (arith, c.if-n-eq0.false) in
    let few : c.args.weighing.end ≤ 8 = omega arith in
    rw up at (c.next_level.ensures (sum_at c.args.weighing.w placed) (rw up p.4) (record {
      asks = λ r j role some. let s = small n placed light few role some (rw up p.3) in search rules;
      makes = λ r j y role some called. let e = more n placed light few role some in search rules;
    }))
