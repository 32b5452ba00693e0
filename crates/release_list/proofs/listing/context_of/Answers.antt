-- Each field is read at its place.
use Rattle.release_list.specs.Text.{context_of}
use Rattle.release_list.proofs.listing.context_of.Goals as goal

pub returns : goal.returns
unfolding context_of
returns c =
    rw (c.from.ensures, c.from-2.ensures, c.from-3.ensures, c.from-4.ensures, c.get16.ensures, c.get16-2.ensures)
