use Rattle.std.proofs.Common.{◌≡◌, ◌+◌, ◌*◌, eqb, get_or, ap, ◌∙◌, rules, tests}
use Rattle.folds.specs.Sets.{in_set, set_below}
use Rattle.folds.proofs.Arrays.{made_each}
use Rattle.folds.proofs.Sets.{in_set_lem}
use Rattle.reader.proofs.Accepted.{accepted_frame}
use Rattle.reader.proofs.Frame.{permissions_le}
use Rattle.masks.proofs.Made.{checked}
use Rattle.batch.proofs.permissions.Permissions.of.Goals as goal

pub own_of-requires : goal.own_of-requires
own_of-requires c =
    let base = c.args.base.now in
    let ok = c.part-k.ensures.accepted in
    let few = permissions_le base (accepted_frame base ok) in
    (rw (c.part-k.ensures.table) (checked base ok).short, rw (c.permission_count.ensures) few)

pub returns : goal.returns
returns c = record {
  weights = c.weights_of-weights.ensures;
  weightless = λ p r l m.
      ap (λ set. in_set set r)
      (made_each (λ p set. set ≡ set_below 8 (λ r. eqb (get_or c.weights_of-weights.result (8 * p + r) 0) 0))
      c.from_fn.result 16 c.from_fn.ensures.items (λ p set q k e. search (rules, tests)) p 0 l)
      ∙ in_set_lem (λ r. eqb (get_or c.weights_of-weights.result (8 * p + r) 0) 0) 8 r m;
  own = rw (c.part-k.ensures.table, c.permission_count.ensures) at c.own_of.ensures;
  masks = c.masks_of.ensures;
}
