use Rattle.std.proofs.Common.{◌∙◌}
use Rattle.release_list.proofs.Entries.{next_room, one_put, all_put}
use Rattle.release_list.proofs.text.Page.put_entries.Goals as goal

pub put_entry-requires : goal.put_entry-requires
put_entry-requires c =
    let (_, (are, size), _) = c.in-Some.ensures.steps in
    let (yet, two, one_buffer) = c.loop-entry.invariant in
    next_room yet _ _ are (size ∙ two) c.requires

pub loop-entry-preserved : goal.loop-entry-preserved
loop-entry-preserved c =
    let (same, (are, size), _) = c.in-Some.ensures.steps in
    let (yet, two, one_buffer) = c.loop-entry.invariant in
    let put = c.put_entry.ensures in
    (one_put yet _ _ are (size ∙ two) put.written, same ∙ two, put.same ∙ one_buffer)

pub returns : goal.returns
returns c =
    let (_, (short, _), _) = c.in-None.ensures.steps in
    let (yet, two, one_buffer) = c.loop-entry.invariant in
    record { same = one_buffer; written = all_put yet (rw two at short) }
