use Rattle.reader.specs.Rules.{context_slot_bad, context_bad}
use Rattle.reader.proofs.contexts.context_bad.Goals as goal

pub returns : goal.returns
unfolding context_bad context_slot_bad
returns c = rw c.rest_bad.ensures
