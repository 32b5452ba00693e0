-- `meeting` meets its contract: where no eight has a place that meets the row, the rest may have one.
use Rattle.std.proofs.Common.{ℕ, ◌+◌, ◌-◌, ◌*◌, ◌/◌, ◌<◌, ◌∙◌, sym, refl, None, rules}
use Rattle.seek.specs.Search.{FoundAt}
use Rattle.seek.specs.Level.{meets}
use Rattle.seek.proofs.Firsts.{none_mapped}
use Rattle.seek.proofs.Eights.{found_behind}
use Rattle.seek.proofs.Level.meeting.Goals as goal

pub returns : goal.returns
returns g c =
    let a = c.args in
    let found = c.find_map-found in
    let nothing = sym c.is_some.ensures ∙ c.if-is_some.false in
    let called = none_mapped found.result refl found.ensures.runs nothing (search rules) in
    let none : (i : ℕ) → i < (a.end - a.from) / 8 →
    FoundAt (meets a.self.now) (a.from + 8 * i) (a.from + 8 * i + 8) None = λ i l.
    let one = called i l in search rules in
    found_behind none c.meeting_in.ensures
