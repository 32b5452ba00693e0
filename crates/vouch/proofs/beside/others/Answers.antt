use Rattle.std.proofs.Common.{◌≡◌, cond, not, ◌&&◌, eqb, get_or, rules, tests}
use Rattle.folds.specs.Sets.{in_set}
use Rattle.folds.proofs.Arrays.{made_each}
use Rattle.vouch.proofs.beside.others.Goals as goal

pub returns : goal.returns
returns c = record {
  size = c.from_fn.ensures.items.long;
  user = λ u l. made_each
      (λ u x. x ≡ cond (not (eqb u c.args.requester) && in_set c.args.vouching u) (get_or c.args.sets.now u 0) 0)
      c.from_fn.result 24 c.from_fn.ensures.items (λ u x q k b. search (rules, tests)) u 0 l;
}
