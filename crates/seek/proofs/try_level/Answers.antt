-- `try_level` meets its contract: with the level's sums and ends made, a place that meets the row is looked for.
use Rattle.std.proofs.Common.{◌∙◌, arith, rules}
use lib.Pow.{pow_pos}
use Rattle.seek.proofs.Looking.{looking, summed_on, tried_for}
use Rattle.seek.proofs.try_level.Goals as goal

pub look_through-requires : goal.look_through-requires
look_through-requires g c =
    let (few, fits, ready, _) = c.requires in
    let (added, users₁) = c.sum_level.ensures in
    let (known, users₂, sums) = c.reach.ensures in
    let weighing = c.args.weighing in
    let masked = ready.sum_masks in
    let summed = summed_on weighing c.args.n sums added in (
      search rules,
      (
        search rules,
        looking weighing {front = 0} {by_sum = c.args.masks.now.sums} few ready (users₂ ∙ users₁) known summed
            (omega arith) (pow_pos weighing.end),
      ),
    )

pub returns : goal.returns
returns g c =
    let (added, users₁) = c.sum_level.ensures in
    let (known, users₂, sums) = c.reach.ensures in
    let same = users₂ ∙ users₁ in
    (same, summed_on c.args.weighing c.args.n sums added, tried_for same c.look_through.ensures)
