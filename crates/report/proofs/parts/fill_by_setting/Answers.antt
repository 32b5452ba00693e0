-- `fill_by_setting` meets its contract: smaller tables suffice where there are fewer roles.
use Rattle.std.proofs.Common.{ℕ, ◌≤◌, List, ◌≡◌, arith}
use Rattle.reader.specs.Tables.{role_count}
use Rattle.weights.specs.declared.Fixed.{Fixed}
use Rattle.multisets.specs.Ends.{NextEnds}
use Rattle.report.specs.Parts.{SetsInDate, UsersOf}
use Rattle.report.proofs.InDate.{idle_past}
use Rattle.report.proofs.Room.{room_for_3, room_for_5, room_for_8}
use Rattle.report.proofs.parts.fill_by_setting.Goals as goal

users_of : {b sets nexts : List ℕ} {s f : Fixed} → s ≡ f → SetsInDate b f.at sets → NextEnds sets nexts →
    UsersOf b s.at nexts
users_of {sets = sets} same acting ends = record { sets = sets; acting = rw same acting; ends = ends }

pub next_ends-nexts-requires : goal.next_ends-nexts-requires
next_ends-nexts-requires c =
    let (count, few) = c.user_count.ensures in
    (few, idle_past c.sets_in_date-sets.ensures count)

pub fill_sized-requires : goal.fill_sized-requires
fill_sized-requires c =
    let p = c.requires in
    let few : role_count c.args.base.now ≤ 3 = omega (arith, c.role_count.ensures.0) in
    let (rows, places) = room_for_3 few in
    let users = users_of c.grounds_of-grounds.ensures.0 c.sets_in_date-sets.ensures c.next_ends-nexts.ensures in
    (c.grounds_of-grounds.ensures.1, users, rows, places, omega arith, omega arith, p.1)

pub fill_sized-requires-in-4 : goal.fill_sized-requires-in-4
fill_sized-requires-in-4 c =
    let p = c.requires in
    let few : role_count c.args.base.now ≤ 5 = omega (arith, c.role_count.ensures.0) in
    let (rows, places) = room_for_5 few in
    let users = users_of c.grounds_of-grounds.ensures.0 c.sets_in_date-sets.ensures c.next_ends-nexts.ensures in
    (c.grounds_of-grounds.ensures.1, users, rows, places, omega arith, omega arith, p.1)

pub fill_sized-requires-in_default : goal.fill_sized-requires-in_default
fill_sized-requires-in_default c =
    let p = c.requires in
    let few : role_count c.args.base.now ≤ 8 = omega (arith, c.role_count.ensures) in
    let (rows, places) = room_for_8 few in
    let users = users_of c.grounds_of-grounds.ensures.0 c.sets_in_date-sets.ensures c.next_ends-nexts.ensures in
    (c.grounds_of-grounds.ensures.1, users, rows, places, omega arith, omega arith, p.1)
