-- `fill` meets its contract: permission by permission, by each decision by which it is ready.
use Rattle.std.proofs.Common.{ℕ, ◌+◌, ◌-◌, ◌*◌, ◌≤◌, List, ◌≡◌, length}
use Rattle.std.proofs.Common.{Bool, true, false, arith, rules}
use Rattle.std.specs.Int.{from_bool}
use borrow.Rule.Slice.PartMut.{put_mid}
use Rattle.report.specs.Smallest.{Deciding}
use Rattle.report.specs.Parts.{PartFor, Filled}
use Rattle.report.proofs.Filling.{filled_none, filled_more, count_few, count_start, count_part}
use Rattle.report.proofs.parts.fill.Goals as goal

-- one part more
filled_by : {from : ℕ} {decision : Deciding} {p w : ℕ} {was out part written : List ℕ} →
    Filled from decision p was out → PartFor from decision p part → w ≡ p → written ≡ part → 13 * p + 13 ≤ length out →
    Filled from decision (p + 1) was (put_mid (13 * w) (13 * w + 13 - 13 * w) out written)
filled_by {from} {decision} {p} {w} {was} {out} {part} f this e same fit =
    rw (e, same) (filled_more from decision p was out part f this fit)

-- a test counts for at most 1
bit : (t : Bool) {n : ℕ} → n ≡ from_bool t → n ≤ 1
bit true e = omega arith
bit false e = omega arith

pub loop-p-init : goal.loop-p-init
loop-p-init g c = λ from decision ready. (ready, (count_start from decision, filled_none from decision _))

pub overflow_add-count : goal.overflow_add-count
overflow_add-count g c =
    let (from, decision, ready) = c.requires.0 in
    let (_, (counted, _)) = c.loop-p.invariant from decision ready in
    let few : c.loop-p.count ≤ c.loop-p.p = rw counted (count_few from decision c.loop-p.p) in
    let one : c.from-count.result ≤ 1 = bit _ c.from-count.ensures in
    omega arith

pub loop-p-preserved : goal.loop-p-preserved
loop-p-preserved g c = λ from decision ready.
    let (now, (counted, filled)) = c.loop-p.invariant from decision ready in
    let (this, next) = c.part-part.ensures from decision c.args.permissions (omega arith) now in
    let fits = c.requires.1 in (
      next,
      (
        count_part from decision _ _ _ _ this counted (search rules),
        filled_by filled this c.wide-at.ensures.0 c.copy_from_slice.ensures.after (omega arith),
      ),
    )
