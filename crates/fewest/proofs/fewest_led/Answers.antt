-- The masks tell the permission's condition, so the search by masks finds the answer.
use Rattle.std.proofs.Common.{refl, sym, ◌∙◌}
use Rattle.fewest.proofs.Seek.{masks_ready, telling}
use Rattle.fewest.proofs.Led.{led_no_clause, led_no_weight, led_no_row, led_is}
use Rattle.fewest.proofs.fewest_led.Goals as goal
use Rattle.fewest.proofs.fewest_led.Goals.{then-clauses-eq0-via-then-clauses-eq0}
use Rattle.fewest.proofs.fewest_led.Goals.{then-clauses-eq0-via-else-clauses-eq0+then-weighed-eq0}

pub returns-then-clauses-eq0 : goal.returns-then-clauses-eq0
returns-then-clauses-eq0 g c = (
  refl,
  λ sets next. elim c.then-clauses-eq0.branch [
    | then-clauses-eq0-via-then-clauses-eq0 w ↦
        led_no_clause c.args.k.now c.args.permission (sym c.own_clauses-clauses.ensures.0 ∙ w.if-clauses-eq0.true)
    | then-clauses-eq0-via-else-clauses-eq0+then-weighed-eq0 w ↦
        led_no_weight c.args.k.now c.args.permission c.weighed-weighed.ensures w.if-weighed-eq0.true
  ],
)

pub masks_for-rows-requires : goal.masks_for-rows-requires
masks_for-rows-requires g c =
    masks_ready c.requires.0 c.weighed-weighed.ensures c.own_clauses-clauses.ensures.1

pub returns-in_err-last : goal.returns-in_err-last
returns-in_err-last g c =
    let is = c.own_clauses-clauses.ensures.0 in
    let told = telling c.requires.0 c.weighed-weighed.ensures c.masks_for-rows.ensures is in
    rw c.from_residual.ensures (refl, λ sets next. led_no_row told c.weighed-weighed.ensures c.in_err-last.ensures)

pub returns : goal.returns
returns g c =
    let is = c.own_clauses-clauses.ensures.0 in
    let told = telling c.requires.0 c.weighed-weighed.ensures c.masks_for-rows.ensures is in
    let (users, found) = c.search.ensures in
    (users, λ sets next. led_is told c.weighed-weighed.ensures c.args.own c.in_ok-last.ensures _ (found sets next))
