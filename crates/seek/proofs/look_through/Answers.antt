-- `look_through` meets its contract: of a level that is made a place that meets the condition is looked for.
use Rattle.std.proofs.Common.{ℕ, suc, ◌+◌, ◌-◌, ◌*◌, ◌≤◌, ◌<◌, List, Option, ◌≡◌, length, get_or, arith, rules}
use Rattle.multisets.specs.Ranks.{starts, first, total}
use Rattle.multisets.specs.declared.Weighing.{Weighing}
use Rattle.multisets.specs.declared.ends.Users.{Users}
use Rattle.multisets.specs.Ends.{NextEnds}
use Rattle.multisets.specs.Laid.{Laid}
use Rattle.multisets.proofs.Blocks.{starts_le, total_le}
use Rattle.multisets.proofs.Places.{first_more, first_le, first_all}
use Rattle.seek.specs.Search.{Tables, FoundAt, TriedWith, met_beside, met_at}
use Rattle.seek.specs.Level.{Looking}
use Rattle.seek.proofs.ByPlace.{Made}
use Rattle.seek.proofs.OneLevel.{tried_level}
use Rattle.seek.proofs.look_through.Goals as goal

-- the level's tables
module _ {users : Users} {n known front : ℕ} {weighing : Weighing} {sums by_sum by_set : List ℕ}
    (looking : Looking users n weighing known sums front by_sum by_set) {shaped : ℕ} {t ends from roles : List ℕ}
    (laid : Laid users.d known shaped users.nexts t ends from roles sums) where
  abbrev d : ℕ
  d = users.d

  abbrev end : ℕ
  end = weighing.end

  level_end : first d n + starts n end ≤ first d 7
  level_end =
      let few = looking.few in
      omega (arith, starts_le n end d looking.end_most, first_more d n, first_le d (suc n) 7 (omega arith))

  -- each sum has a mask
  masked : (x : ℕ) → first d n ≤ x → x < first d n + starts n end → get_or sums x 0 < length by_sum
  masked x low high =
      let i : ℕ = x - first d n in
      let few : i < starts n end = omega arith in
      let here : first d n + i ≡ x = omega arith in
      let up = starts_le n end d looking.end_most in
      let before : first d n + i < first d (suc n) = omega (arith, first_more d n) in
      let is = looking.summed.each n i looking.few few before in
      let most = looking.end_most in
      let all = laid.most in
      let eight : end ≤ 8 = omega arith in
      let light = λ (r : ℕ) (l : r < end). weighing.light.most r (omega arith) in
      let sum = total_le (λ r. get_or weighing.w r 0) 40 end eight light n i few in
      let fits = looking.fits in
      let there : get_or sums x 0 ≡ weighing.placed + total (λ r. get_or weighing.w r 0) n i = rw here at is in
      omega arith

  tables : Tables (first d n) (first d n + starts n end) ends sums roles by_sum by_set
  tables = record {
    ends_room = omega (arith, level_end, laid.filled.room);
    sums_room = omega (arith, level_end, looking.summed.room);
    roles_room = omega (arith, level_end, laid.shape.held.room);
    sum_masks = masked;
    set_masks = looking.set_masks;
  }

  made : (sets : List ℕ) → NextEnds sets users.nexts →
      Made sets weighing.w weighing.placed d end n ends from roles sums
  made sets next = record {
    most = laid.most;
    end = looking.end_most;
    few = looking.few;
    nexts = users.nexts;
    next_ends = next;
    k = 8 * first d known;
    filled = laid.filled;
    filled_up = omega (arith, first_le d n known looking.made);
    kr = first d (suc shaped);
    joined = laid.shape.held;
    joined_up = first_le d (suc n) (suc shaped) (let m = looking.made in let within = laid.within in omega arith);
    ks = first d (suc n);
    added = looking.summed;
    added_up = omega arith;
  }

  -- what the search through the level is handed and what it finds, by the places read
  module _ {from_at count : ℕ} (from_is : from_at ≡ first d n) (count_is : count ≡ starts n end) where
    asked : Tables from_at (from_at + count) ends sums roles by_sum by_set
        × (from_at ≤ from_at + count) × (from_at + count ≤ 3003)
    asked = (rw (from_is, count_is) tables, omega arith, omega (arith, level_end, from_is, first_all d laid.most))

    tried : (row : ℕ) {o : Option ℕ} →
        FoundAt (met_at ends sums roles (met_beside front row by_sum by_set)) from_at (from_at + count) o →
        (sets : List ℕ) → NextEnds sets users.nexts →
        TriedWith sets weighing.w weighing.placed d (met_beside front row by_sum by_set) n o ends from
    tried row f sets next = record {
      tried =
          tried_level front by_sum by_set row (made sets next)
          looking.asked looking.low (rw (from_is, count_is) at f.found);
      some = f.some;
    }

pub meeting-requires : goal.meeting-requires
meeting-requires g c = (
  search rules,
  asked c.requires c.args.tables.now.laid c.first_in-first.ensures.0 c.start_in.ensures.0,
)

pub returns : goal.returns
returns g c =
    tried c.requires c.args.tables.now.laid c.first_in-first.ensures.0 c.start_in.ensures.0 c.args.condition.row
    c.meeting.ensures
