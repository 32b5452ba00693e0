-- `search` meets its contract: beside no role a level so far has a place that meets its row; the first gives the group.
use Rattle.std.proofs.Common.{refl, ◌∙◌, arith}
use Rattle.seek.proofs.Groups.{no_sums, back_way}
use Rattle.seek.proofs.Looking.{summed_next}
use Rattle.seek.proofs.Front.{led_for, none_led, some_led, way_led}
use Rattle.seek.proofs.leading.search.Goals as goal

pub loop-n-init : goal.loop-n-init
loop-n-init g c = record {
  users = refl;
  added = no_sums c.args.tables.now.laid.room;
  none = λ sets next r low acts heavy h l m. absurd (omega arith);
}

pub loop-n-preserved : goal.loop-n-preserved
loop-n-preserved g c =
    let i = c.loop-n.invariant in
    let m = c.args.masks.now in
    let (users, added, tried) = c.in_default.ensures in
    let one = led_for i.users tried in
    record {
      users = users ∙ i.users;
      added = summed_next c.args.weighing c.loop-n.n i.users added;
      none = λ sets next. none_led c.args.rows.now m.sums m.sets (i.none sets next) (one sets next);
    }

pub group-group-requires : goal.group-group-requires
group-group-requires g c =
    let i = c.loop-n.invariant in
    let (users, added, tried) = c.in-Some.ensures in
    let one = led_for i.users tried in
    let way = way_led c.args.tables.now.users one in
    (omega arith, back_way way (users ∙ i.users) c.requires.2 c.try_led.new.tables.laid)

pub returns-in-Some : goal.returns-in-Some
returns-in-Some g c =
    let i = c.loop-n.invariant in
    let m = c.args.masks.now in
    let (users, added, tried) = c.in-Some.ensures in
    let one = led_for i.users tried in (
      users ∙ i.users,
      λ sets next. some_led c.args.rows.now m.sums m.sets (i.none sets next) _ refl (one sets next)
          c.group-group.ensures,
    )
