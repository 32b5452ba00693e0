-- `look_led` meets its contract: role by role, the first beside which some entries meet the row.
use Rattle.std.proofs.Common.{refl, sym, ◌∙◌, arith}
use Rattle.folds.proofs.Bools.{clash}
use Rattle.seek.proofs.Front.{none_beside}
use Rattle.seek.proofs.leading.look_led.Goals as goal
use Rattle.seek.proofs.leading.look_led.Goals.{then-leads+in_default, else-leads}

pub loop-role-init : goal.loop-role-init
loop-role-init g c = record { none = λ sets next r l. absurd (omega arith) }

pub loop-role-preserved : goal.loop-role-preserved
loop-role-preserved g c =
    let m = c.args.masks.now in record {
      none = λ sets next. none_beside c.args.weighing.w c.args.own c.args.row m.sums m.sets
          (c.loop-role.invariant.none sets next) (elim c.if-leads.branch [
            | then-leads+in_default w ↦ λ may h many m.
                let t = w.in_default.ensures sets next in t.tried.none refl h many m
            | else-leads w ↦ λ may. clash _ may (sym c.leads.ensures ∙ w.if-leads.false)
          ]);
    }

pub returns : goal.returns
returns g c = λ sets next. record {
  tried = λ r low may h many m. c.loop-role.invariant.none sets next r (omega arith) may h many m;
}

pub returns-in-Some : goal.returns-in-Some
returns-in-Some g c = λ sets next. record {
  tried =
      let t = c.in-Some.ensures sets next in
      (omega arith, sym c.leads.ensures ∙ c.if-leads.true, t.tried.found t.some);
}
