-- `withdraw` meets its contract: 23 where the user has no entry on the sheet, and the sheet without the user's entries
-- where the user has one.
use Rattle.std.proofs.Common.{ℕ, Bool, List, ◌≡◌, ap, sym, ◌∙◌}
use Rattle.sheet.specs.declared.Sheet.{Sheet}
use Rattle.sheet.specs.Sheets.{held_on, stands_in}
use Rattle.sheet.proofs.Withdrawing.{withdrawn_refused, withdrawn_done}
use Rattle.sheet.proofs.withdraw.Goals as goal

of_held : (s : Sheet) (u : ℕ) {found : Bool} {held : List ℕ} → held ≡ held_on s → found ≡ stands_in held u →
    found ≡ stands_in (held_on s) u
of_held s u are e = e ∙ ap (λ (g : List ℕ). stands_in g u) are

pub returns-then-not-stands_in : goal.returns-then-not-stands_in
returns-then-not-stands_in c =
    let is = of_held c.args.sheet c.args.user c.held.ensures.0 c.stands_in.ensures in
    withdrawn_refused c.args.sheet c.args.user (sym is ∙ c.if-not-stands_in.true)

pub returns : goal.returns
returns c =
    let is = of_held c.args.sheet c.args.user c.held.ensures.0 c.stands_in.ensures in
    withdrawn_done c.args.sheet c.args.user (sym is ∙ c.if-not-stands_in.false) c.without.ensures
