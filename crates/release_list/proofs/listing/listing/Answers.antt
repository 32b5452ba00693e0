-- What is printed for the bytes that were read is so for the whole input.
use Rattle.std.proofs.Common.{ℕ, ◌≡◌, List, length, take, rules}
use Rattle.release_list.specs.Text.{Listed, WholeListed}
use Rattle.release_list.proofs.Whole.{whole_listed}
use Rattle.release_list.proofs.listing.listing.Goals as goal

by_page : {input out after now : List ℕ} {read n : ℕ} → now ≡ after → length input ≡ 2467 →
    Listed (take read input) out after n → WholeListed input read out now n
by_page e size d = rw e (whole_listed size d)

pub returns : goal.returns
returns c = by_page (search rules) c.requires.0 c.put_listing.ensures.text
