-- An input of less than 6 bytes is refused, behind 6 bytes stands the base.
use Rattle.std.proofs.Common.{ℕ, ◌-◌, ◌≡◌, List, length, take, drop, arith, length-drop}
use lib.Seq.{take_all}
use Rattle.weights.specs.declared.Context.{Context}
use Rattle.release_list.specs.Text.{ascii, base_of, context_of}
use Rattle.release_list.specs.Writing.{ReportListed}
use Rattle.release_list.proofs.Answered.{count_short, short_listed, long_listed}
use Rattle.release_list.proofs.listing.put_listing.Goals as goal

-- the bytes from 6 to the end, as the code cuts them out, are the base
base_listed : (input : List ℕ) {at : Context} {out after : List ℕ} {n : ℕ} → at ≡ context_of input →
    ReportListed (take (length input - 6) (drop 6 input)) at out after n →
    ReportListed (base_of input) (context_of input) out after n
base_listed input is d = rw (is, take_all (length input - 6) (drop 6 input) (simp length-drop (omega arith))) at d

pub put_count-requires : goal.put_count-requires
put_count-requires c =
    let (none, room) = c.requires in
    omega (arith, none, room, count_short (ascii "refused ") c.into.result (omega arith))

pub returns-then-input-lt6-clause-text : goal.returns-then-input-lt6-clause-text
returns-then-input-lt6-clause-text c =
    let (none, room) = c.requires in
    let w = rw c.into.ensures at c.put_count.ensures.written in
    short_listed c.if-input-lt6.true room (rw none at w)

pub returns-else-input-lt6-clause-text : goal.returns-else-input-lt6-clause-text
returns-else-input-lt6-clause-text c =
    long_listed c.if-input-lt6.false (base_listed c.args.input.now c.context_of.ensures c.put_report.ensures.text)
