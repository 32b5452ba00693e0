use Rattle.std.proofs.Common.{◌≡◌, cond, get_or, rules, tests}
use Rattle.folds.specs.Sets.{in_set}
use Rattle.folds.proofs.Arrays.{made_each}
use Rattle.masks.proofs.sets.without_role.Goals as goal

pub returns : goal.returns
returns c = record {
  size = c.from_fn.ensures.items.long;
  each = λ r. made_each (λ r mask. mask ≡ cond (in_set c.args.start r) c.args.own (get_or c.args.roles.now r 0))
      c.from_fn.result 8 c.from_fn.ensures.items (λ r mask q l k. search (rules, tests)) r 0;
}
