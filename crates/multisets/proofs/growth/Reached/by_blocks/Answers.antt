-- Block by block, for each largest role.
use Rattle.std.proofs.Common.{ℕ, ◌+◌, ◌≡◌, arith}
use Rattle.multisets.specs.Ranks.{starts, first}
use Rattle.multisets.proofs.Blocks.{starts_none}
use Rattle.multisets.proofs.Places.{first_more}
use Rattle.multisets.proofs.growth.Reached.by_blocks.Goals as goal

level_start : (d : ℕ) → first d 5 + starts 5 0 ≡ first d 5
level_start d = rw (starts_none 4) (omega arith)

pub loop-r-init : goal.loop-r-init
loop-r-init g c = rw (level_start c.args.users.now.d) c.requires.1

pub returns : goal.returns
returns g c =
    let e : c.loop-r.r ≡ c.args.users.now.d = omega arith in
    rw (first_more c.args.users.now.d 5) (rw e at c.loop-r.invariant)
