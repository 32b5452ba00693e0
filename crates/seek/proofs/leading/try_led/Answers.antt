-- `try_led` meets its contract: with the level's sums and ends made, a role in front and a place are looked for.
use Rattle.std.proofs.Common.{◌∙◌, arith, rules}
use lib.Pow.{pow_pos}
use Rattle.seek.proofs.Looking.{looking, summed_on}
use Rattle.seek.proofs.Front.{led_for, led_none}
use Rattle.seek.proofs.leading.try_led.Goals as goal

pub look_led-requires : goal.look_led-requires
look_led-requires g c =
    let (few, nobody, ready, _) = c.requires in
    let (added, users₁) = c.sum_level.ensures in
    let (known, users₂, sums) = c.reach.ensures in
    let weighing = c.args.weighing in
    let masked = ready.sum_masks in
    let summed = summed_on weighing c.args.n sums added in
    let all = looking weighing {front = 0} {by_sum = c.args.masks.now.sums} (omega arith) ready (users₂ ∙ users₁) known
    summed (omega arith) (pow_pos weighing.end) in
    (search rules, (few, nobody, all, masked))

pub returns-then-row-eq0 : goal.returns-then-row-eq0
returns-then-row-eq0 g c =
    let (added, users) = c.sum_level.ensures in
    (users, added, λ sets next. led_none c.if-row-eq0.true)

pub returns : goal.returns
returns g c =
    let (added, users₁) = c.sum_level.ensures in
    let (known, users₂, sums) = c.reach.ensures in
    let same = users₂ ∙ users₁ in
    (same, summed_on c.args.weighing c.args.n sums added, led_for same c.look_led.ensures)
