-- `fill_for` meets its contract: smaller tables suffice where there are fewer roles.
use Rattle.std.proofs.Common.{ℕ, ◌≤◌, List, [], ◌≡◌, arith}
use Rattle.weights.specs.declared.Fixed.{Fixed}
use Rattle.weights.specs.Setting.{rules_of}
use Rattle.vouch.specs.Parts.{AskedFor}
use Rattle.vouch.specs.declared.parts.Asked.{Asked}
use Rattle.reader.specs.Tables.{role_count}
use Rattle.report.proofs.Room.{room_for_3, room_for_5, room_for_8}
use Rattle.vouch.proofs.parts.fill_for.Goals as goal

-- what is known of a setting is known of the grounds that hold it
still_plain : {s f : Fixed} → s ≡ f → rules_of f ≡ [] → rules_of s ≡ []
still_plain same plain = rw same plain

still_for : {b : List ℕ} {s f : Fixed} {asked : Asked} → s ≡ f →
    (register : List ℕ) × (threshold : ℕ) × AskedFor register threshold b f.at asked →
    (register : List ℕ) × (threshold : ℕ) × AskedFor register threshold b s.at asked
still_for same (register, threshold, a) = (register, threshold, rw same a)

pub fill_sized-requires : goal.fill_sized-requires
fill_sized-requires c =
    let (_, plain, asked, fits) = c.requires in
    let (same, grounds) = c.grounds_of-grounds.ensures in
    let few : role_count c.args.base.now ≤ 3 = omega (arith, c.role_count.ensures.0) in
    let (rows, places) = room_for_3 few in
    (grounds, still_plain same plain, still_for same asked, rows, places, omega arith, omega arith, fits)

pub fill_sized-requires-in-4 : goal.fill_sized-requires-in-4
fill_sized-requires-in-4 c =
    let (_, plain, asked, fits) = c.requires in
    let (same, grounds) = c.grounds_of-grounds.ensures in
    let few : role_count c.args.base.now ≤ 5 = omega (arith, c.role_count.ensures.0) in
    let (rows, places) = room_for_5 few in
    (grounds, still_plain same plain, still_for same asked, rows, places, omega arith, omega arith, fits)

pub fill_sized-requires-in_default : goal.fill_sized-requires-in_default
fill_sized-requires-in_default c =
    let (_, plain, asked, fits) = c.requires in
    let (same, grounds) = c.grounds_of-grounds.ensures in
    let few : role_count c.args.base.now ≤ 8 = omega (arith, c.role_count.ensures) in
    let (rows, places) = room_for_8 few in
    (grounds, still_plain same plain, still_for same asked, rows, places, omega arith, omega arith, fits)
