-- Each turn puts one entry behind those before it.
use Rattle.std.proofs.Common.{◌≡◌}
use Rattle.release_list.specs.Writing.{SameBuffer}
use Rattle.release_list.proofs.Entries.{EntriesYet}
use Rattle.release_list.proofs.text.Page.put_entries.Given as goal

abbrev pub invariant-loop-entry : goal.invariant-loop-entry
invariant-loop-entry l =
    EntriesYet l.group l.initial.self.out.now l.initial.self.len l.self.out.now l.self.len l.entry-iterator.rest.now
    × (l.entry-iterator.size ≡ 2)
    × SameBuffer l.initial.self l.self
