-- `sum_of` meets its contract: at most 6 weights of at most 40 are added.
use Rattle.std.proofs.Common.{ℕ, List, ◌≤◌, ◌<◌, ◌/◌, length, get_or, rules, arith}
use Rattle.folds.specs.Below.{sum_below}
use Rattle.folds.proofs.Numbers.{sum_le}
use Rattle.decision.specs.Groups.{entry_role, sum_of}
use Rattle.folds.proofs.Chains.{sum_of_range, fits_of_range}
use Rattle.decision.proofs.groups.sum_of.Goals as goal

abbrev weight_at : List ℕ → List ℕ → ℕ → ℕ
weight_at w g i = get_or w (entry_role g i) 0

most : (w g : List ℕ) → length g ≤ 12 → ((i : ℕ) → i < length g / 2 → entry_role g i < 8) →
    ((r : ℕ) → r < 8 → get_or w r 0 ≤ 40) → sum_below (length g / 2) (weight_at w g) ≤ 240
most w g few low light =
    let each = sum_le (weight_at w g) 40 (length g / 2) (λ i l. light (entry_role g i) (low i l)) in
    omega arith

pub sum-requires-clause-fits : goal.sum-requires-clause-fits
sum-requires-clause-fits c =
    let (few, low, light) = c.requires in
    let top = most c.args.w c.args.g.now few low light in
    fits_of_range (weight_at c.args.w c.args.g.now) (length c.args.g.now / 2) (cc) c.map.ensures.closure
    (λ x r q k. search rules) _ (omega arith)

pub returns : goal.returns
unfolding sum_of
returns c =
    let (few, low, light) = c.requires in
    let is = sum_of_range (weight_at c.args.w c.args.g.now) (length c.args.g.now / 2) (cc) c.map.ensures.closure
    (λ x r q k. search rules) c.sum.ensures.ran in
    (is, rw is (most c.args.w c.args.g.now few low light))
