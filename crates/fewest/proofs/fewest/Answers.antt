-- The masks tell the permission's condition, so the search by masks finds the answer.
use Rattle.std.proofs.Common.{refl, sym, ◌∙◌}
use Rattle.fewest.proofs.Asked.{no_row, last_or_none, fewest_is}
use Rattle.fewest.proofs.Seek.{masks_ready, telling, no_clause, no_weight}
use Rattle.fewest.proofs.fewest.Goals as goal
use Rattle.fewest.proofs.fewest.Goals.{then-own-eq0-via-then-own-eq0}
use Rattle.fewest.proofs.fewest.Goals.{then-own-eq0-via-else-own-eq0+then-weighed-start-eq0}

pub returns-then-own-eq0 : goal.returns-then-own-eq0
returns-then-own-eq0 g c = (
  refl,
  λ sets next. record {
    answered = elim c.then-own-eq0.branch [
      | then-own-eq0-via-then-own-eq0 w ↦
          no_clause c.requires.0 c.args.permission (sym c.own_clauses-own.ensures.0 ∙ w.if-own-eq0.true)
      | then-own-eq0-via-else-own-eq0+then-weighed-start-eq0 w ↦
          no_weight c.requires.0 c.args.permission c.weighed-weighed.ensures w.if-weighed-start-eq0.true
    ];
    some = tt;
  },
)

pub masks_for-rows-requires : goal.masks_for-rows-requires
masks_for-rows-requires g c =
    masks_ready c.requires.0 c.weighed-weighed.ensures c.own_clauses-own.ensures.1

pub returns-in_err-last : goal.returns-in_err-last
returns-in_err-last g c =
    let told = telling c.requires.0 c.weighed-weighed.ensures c.masks_for-rows.ensures c.own_clauses-own.ensures.0 in
    rw c.from_residual.ensures (
      refl,
      λ sets next. record {
        answered = no_row told c.weighed-weighed.ensures c.requires.0.few c.in_err-last.ensures;
        some = tt;
      },
    )

pub returns : goal.returns
returns g c =
    let told = telling c.requires.0 c.weighed-weighed.ensures c.masks_for-rows.ensures c.own_clauses-own.ensures.0 in
    let (users, answered) = c.search.ensures in (
      users,
      λ sets next. record {
        answered = fewest_is told c.weighed-weighed.ensures c.requires.0.few (last_or_none c.in_ok-last.ensures)
            (answered sets next).answered;
        some = (answered sets next).some;
      },
    )
