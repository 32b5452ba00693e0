-- `search` meets its contract: no level so far has a place that meets its row; the first that has one gives the group.
use Rattle.std.proofs.Common.{ℕ, ◌-◌, ◌*◌, ◌<◌, ◌≤◌, Bool, List, ◌++◌, Option, Some, ◌≡◌, refl, ◌∙◌}
use Rattle.std.proofs.Common.{length, take, replicate, arith, rules}
use mathlib.Core.Logic.{⊎_elim}
use borrow.Author.Tests.{ltb-true, ltb-false}
use lib.Dec.{ltb}
use Rattle.std.proofs.lemmas.List.{get_or-take}
use Rattle.folds.proofs.Bools.{met_or_not}
use Rattle.multisets.specs.Ranks.{first}
use Rattle.multisets.specs.Rising.{Entry}
use Rattle.multisets.specs.Standing.{bytes_back}
use Rattle.multisets.specs.declared.ends.Users.{Users}
use Rattle.multisets.specs.Ends.{NextEnds, Way, back_of}
use Rattle.seek.specs.Search.{by_masks, TriedWith, Meets}
use Rattle.seek.specs.Answer.{AnsweredWith}
use Rattle.seek.proofs.Groups.{no_sums, back_way, shown_by}
use Rattle.seek.proofs.search.Goals as goal

-- a level's try, of the tables and the rows as they were handed in
tried_here : (rows by_sum by_set : List ℕ) {users users₁ : Users} {n count placed : ℕ} {w ends from : List ℕ}
    {o : Option ℕ} → n < count → users₁ ≡ users →
    ((sets : List ℕ) → NextEnds sets users₁.nexts →
    TriedWith sets w placed users₁.d (by_masks (take count rows) by_sum by_set n) n o ends from) →
    (sets : List ℕ) → NextEnds sets users.nexts →
    TriedWith sets w placed users.d (by_masks rows by_sum by_set n) n o ends from
tried_here rows by_sum by_set {n = n} {count} low same tried = rw (same, get_or-take count rows n 0 low) at tried

-- the way back from the place found
way_there : (condition : ℕ → ℕ → Bool) (users : Users) {n at placed : ℕ} {w ends from : List ℕ} →
    ((sets : List ℕ) → NextEnds sets users.nexts → TriedWith sets w placed users.d condition n (Some at) ends from) →
    (sets : List ℕ) → NextEnds sets users.nexts → Way (first users.d 7) ends from n at
way_there condition users one sets next = let t = one sets next in (t.tried.found t.some).way

-- where no level before has a place, the group found back is the answer
answer : (condition : ℕ → ℕ → ℕ → Bool) {d n at last : ℕ} {w nexts ends from bytes : List ℕ} {placed : ℕ} →
    ((sets : List ℕ) → NextEnds sets nexts → TriedWith sets w placed d (condition n) n (Some at) ends from) →
    n ≤ last → last ≤ 6 →
    ((sets : List ℕ) → NextEnds sets nexts → (h : List Entry) → length h < n →
    Meets sets w placed (condition (length h)) h → ⊥) →
    bytes ≡ bytes_back (back_of ends from n at) ++ replicate (12 - 2 * n) 255 →
    (sets : List ℕ) → NextEnds sets nexts →
    AnsweredWith sets w placed condition last (Some record { n = n; group = bytes })
answer condition {n = n} tried low most none is sets next =
    let one = tried sets next in
    let found = one.tried.found one.some in
    record {
      answered = record {
        group = found.group;
        sought = record {
          few = omega arith;
          within = λ h. low;
          many = λ h. found.many;
          meets = λ h. found.meets;
          least = λ h l m. ⊎_elim
              (λ t. absurd (none sets next h (ltb-true (length h) n t) m))
              (λ t. ltb-false (length h) n t)
              (met_or_not (ltb (length h) n));
        };
        shown = λ h. shown_by found.group found.many found.bytes is;
      };
      some = omega arith;
    }

pub loop-n-init : goal.loop-n-init
loop-n-init g c = record {
  users = refl;
  added = no_sums c.args.tables.now.laid.room;
  none = λ sets next h l m. absurd (omega arith);
}

pub loop-n-preserved : goal.loop-n-preserved
loop-n-preserved g c =
    let i = c.loop-n.invariant in
    let m = c.args.masks.now in
    let (users, added, tried) = c.in_default.ensures in
    let one = tried_here c.args.rows.now m.sums m.sets (omega arith) i.users tried in
    search rules

pub group-group-requires : goal.group-group-requires
group-group-requires g c =
    let i = c.loop-n.invariant in
    let (users, added, tried) = c.in-Some.ensures in
    let m = c.args.masks.now in
    let one = tried_here c.args.rows.now m.sums m.sets (omega arith) i.users tried in
    let way = way_there _ c.args.tables.now.users one in
    (omega arith, back_way way (users ∙ i.users) c.requires.2 c.try_level.new.tables.laid)

pub returns-in-Some : goal.returns-in-Some
returns-in-Some g c =
    let i = c.loop-n.invariant in
    let m = c.args.masks.now in
    let (users, added, tried) = c.in-Some.ensures in
    let one = tried_here c.args.rows.now m.sums m.sets (omega arith) i.users tried in
    let low : c.loop-n.n ≤ c.args.last = omega arith in
    let found = answer (by_masks c.args.rows.now m.sums m.sets) one low c.requires.0 i.none c.group-group.ensures in
    (users ∙ i.users, found)
