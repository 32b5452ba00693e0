-- `relations` meets its contract: each slot has its row.
use Rattle.std.proofs.Common.{ℕ, ◌≡◌, ◌<◌, rules}
use Rattle.folds.specs.Sets.{in_set}
use Rattle.related.specs.Slots.{related_slots}
use Rattle.folds.proofs.Arrays.{made_each}
use Rattle.related.proofs.slots.relations.Goals as goal

pub returns : goal.returns
unfolding in_set
returns c =
    let Row : ℕ → ℕ → Type 0 = λ s row. (t : ℕ) → t < 17 → in_set row t ≡ related_slots c.args.c.now c.args.names s t in
    let each =
    made_each Row c.from_fn.result 17 c.from_fn.ensures.items
    (λ s row q l k. (search rules, λ t m. search rules)) in
    record { row = λ s t l m. each s 0 l t m }
