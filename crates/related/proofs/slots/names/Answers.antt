-- `names` meets its contract: it adds the slot of each policy's context number.
use Rattle.std.proofs.Common.{◌/◌, length, rules}
use Rattle.folds.proofs.Folds.{fold_callable, fold_adds}
use Rattle.reader.specs.Fields.{policy_context}
use Rattle.reader.proofs.Accepted.{policy_fine}
use Rattle.related.specs.Slots.{slot_of, named}
use Rattle.related.proofs.slots.names.Goals as goal

pub fold-requires-clause-callable : goal.fold-requires-clause-callable
fold-requires-clause-callable c =
    fold_callable (length c.args.a.now / 8) (cc) (λ s i t q k. search rules)
    (λ s i l. let fine = policy_fine 8 256 c.args.a.now i c.requires l in search rules)

pub returns : goal.returns
unfolding named
returns c =
    let a = c.args.a.now in
    fold_adds (λ i. slot_of (policy_context a i)) (length a / 8) _ (cc) (λ s i t q k. search rules) c.fold.ensures.ran
