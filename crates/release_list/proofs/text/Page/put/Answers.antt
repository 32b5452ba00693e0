-- The bytes are copied behind what stands on the page.
use Rattle.std.proofs.Common.{refl}
use Rattle.release_list.proofs.Stores.{stored}
use Rattle.release_list.proofs.text.Page.put.Goals as goal

pub returns : goal.returns
returns c = record { same = refl; written = stored _ _ _ c.copy_from_slice.ensures.after c.requires }
