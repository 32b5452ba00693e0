-- Role by role, the multiset with that role more keeps the smaller end.
use Rattle.std.proofs.Common.{ℕ, suc, ◌+◌, ◌*◌, ◌≤◌, ◌<◌, List, ◌∷◌, ◌≡◌, ◌∙◌, refl, sym, ap, drop, length}
use Rattle.std.proofs.Common.{get_or, arith, rules}
use mathlib.Core.Logic.{⊎_elim}
use native.Mathlib.Nat.{zero-add, add-zero}
use lib.ListN.{length-drop}
use lib.Seq.{drop-drop, get_or-drop}
use Rattle.std.proofs.lemmas.List.{get_or-take, length-take}
use Rattle.multisets.specs.Ranks.{first, more}
use Rattle.multisets.specs.Ends.{NextTable, Grows, Filled, Relaxed}
use Rattle.multisets.specs.Levels.{Pushing}
use Rattle.multisets.proofs.Places.{first_five, first_all, place_lt, first_le}
use Rattle.multisets.proofs.Filling.{filled_more, filled_past, end_stays, at_within}
use Rattle.multisets.proofs.growth.Reached.push.Invariants.{row, Turn}
use Rattle.multisets.proofs.growth.Reached.push.Goals as goal

-- a place that leads on is one of 1,287
module _ {d : ℕ} {nexts up : List ℕ} {i next : ℕ} {ends from : List ℕ} (most : d ≤ 8)
    (p : Pushing d nexts up i next ends from) where
  place_few : i < 1287
  place_few =
      let is = p.place in
      let few = p.few in
      omega (arith, place_lt d p.n p.m p.some, first_le d (suc p.n) 6 (omega arith), first_five d most)

  place_there : i < length ends
  place_there =
      let is = p.place in
      let few = p.few in
      omega (arith, place_lt d p.n p.m p.some, first_le d (suc p.n) 7 (omega arith), p.filled.room)

  -- its end is that of one of 24 users
  first_end : get_or ends i 0 < 255 → get_or ends i 0 ≤ 24
  first_end h =
      let is = p.place in
      let few = p.few in
      p.filled.within i (omega (arith, place_lt d p.n p.m p.some, first_le d (suc p.n) 7 (omega arith))) h

  -- so there is a whole row of next ends
  row_length : NextTable nexts → get_or ends i 0 < 255 → length (row d nexts (get_or ends i 0)) ≡ d
  row_length table h =
      let end = get_or ends i 0 in
      omega (
        arith,
        length-take d (drop (8 * end) nexts),
        length-drop (8 * end) nexts,
        table.size,
        most,
        first_end h,
      )

-- what is left of a list, from place q on
module _ (xs : List ℕ) (q : ℕ) {rest : List ℕ} (left : rest ≡ drop q xs) where
  none_left : length rest ≡ 0 → length xs ≤ q
  none_left none = let e = ap length left in omega (arith, length-drop q xs)

  module _ {x : ℕ} {after : List ℕ} (cut : rest ≡ x ∷ after) where
    some_left : q < length xs
    some_left = let e = ap length (sym left ∙ cut) in omega (arith, length-drop q xs)

    first_is : x ≡ get_or xs q 0
    first_is =
        ap (λ (l : List ℕ). get_or l 0 0) (sym cut ∙ left) ∙ get_or-drop q xs 0 0
        ∙ ap (λ (i : ℕ). get_or xs i 0) (add-zero q)

    next_left : {l : ℕ} → l ≡ q + 1 → after ≡ drop l xs
    next_left {l} one = rw one (ap (drop 1) (sym cut ∙ left) ∙ drop-drop 1 q xs)

-- one turn, of plain values
module _ {d : ℕ} {nexts up : List ℕ} {i next : ℕ} {ends₀ from₀ : List ℕ} (most : d ≤ 8)
    (p : Pushing d nexts up i next ends₀ from₀) (table : NextTable nexts) {end q : ℕ} {rest rest_up ends from : List ℕ}
    (turn : Turn d nexts up i end q rest rest_up ends from) {x ahead : ℕ} {after after_up : List ℕ}
    (cut : (rest ≡ x ∷ after) × (rest_up ≡ ahead ∷ after_up)) where
  role : q < d
  role =
      let l = some_left (row d nexts end) q turn.left cut.0 in
      omega (arith, length-take d (drop (8 * end) nexts))

  grows : Grows d p.n p.m q (8 * i + q)
  grows = record { few = p.few; some = p.some; role = role; is = rw p.place }

  is_end : get_or ends (first d p.n + p.m) 0 ≡ end
  is_end = rw (← p.place) turn.stays

  small : get_or ends (first d p.n + p.m) 0 < 255
  small = rw is_end turn.reached

  there : next + ahead ≡ first d (suc p.n) + more p.n p.m q
  there =
      let low = role in
      let e = p.ups.role q (omega arith) in
      let z : get_or up q 0 + p.m ≡ more p.n p.m q = rw (zero-add q) at e in
      let a = p.ahead in
      let is = first_is up q turn.left_up cut.1 in
      omega arith

  is_next : x ≡ get_or nexts (8 * get_or ends (first d p.n + p.m) 0 + q) 0
  is_next =
      first_is (row d nexts end) q turn.left cut.0
      ∙ get_or-take d (drop (8 * end) nexts) q 0 (omega (arith, role))
      ∙ get_or-drop (8 * end) nexts q 0 ∙ rw is_end

  target_lt : next + ahead < first d 7
  target_lt = at_within most turn.filled table grows small there is_next

  turn_more : {k l : ℕ} → k ≡ q → l ≡ q + 1 → {ends' from' : List ℕ} →
      Relaxed ends from (next + ahead) x (8 * i + k) ends' from' → Turn d nexts up i end l after after_up ends' from'
  turn_more {l = l} is one read =
      let r = rw is at read in
      let past : 8 * i + l ≡ 8 * i + q + 1 = omega arith in
      let same = end_stays most turn.filled table grows small there is_next r in
      record {
        within = omega (arith, role);
        filled = rw past (filled_more most turn.filled table grows small there is_next r);
        stays = rw p.place (same ∙ is_end);
        reached = turn.reached;
        left = next_left (row d nexts end) q turn.left cut.0 one;
        left_up = next_left up q turn.left_up cut.1 one;
      }

-- where nothing is left of the row or of the numbers, every role had its turn
module _ {d : ℕ} {nexts up : List ℕ} {i next : ℕ} {ends₀ from₀ : List ℕ} (most : d ≤ 8)
    (p : Pushing d nexts up i next ends₀ from₀) (table : NextTable nexts) {q : ℕ} {rest rest_up ends from : List ℕ}
    (turn : Turn d nexts up i (get_or ends₀ i 0) q rest rest_up ends from) where
  row_done : length rest ≡ 0 → d ≤ q
  row_done none =
      let l = none_left (row d nexts (get_or ends₀ i 0)) q turn.left none in
      omega (arith, l, row_length most p table turn.reached)

  ups_done : length rest_up ≡ 0 → d ≤ q
  ups_done none = omega (arith, none_left up q turn.left_up none, p.size, most)

  led_on : d ≤ q → Filled d nexts (8 * i + 8) ends from
  led_on done =
      let is = p.place in
      let within = turn.within in
      filled_past most turn.filled p.n p.m (8 * i + 8) p.some p.few (omega arith) (omega arith) (omega arith)

pub bounds-self-i : goal.bounds-self-i
bounds-self-i g c = let there = place_there c.args.users.now.most c.requires in search rules

pub behind-row-requires : goal.behind-row-requires
behind-row-requires g c = (first_end c.args.users.now.most c.requires (omega arith), c.args.users.now.most)

pub loop-q-init : goal.loop-q-init
loop-q-init g c =
    let given = c.into_iter-q-iterator.ensures.into_iter_gives in
    let items = c.enumerate-q-items.ensures in
    let pairs = c.zip.ensures in
    let none : c.into_iter-q-iterator.result.count ≡ 0 = cc in
    let e : 8 * c.args.i + c.into_iter-q-iterator.result.count ≡ 8 * c.args.i = omega arith in
    record {
      within = omega arith;
      filled = rw e c.requires.filled;
      stays = refl;
      reached = omega arith;
      left = rw none (cc);
      left_up = rw none (cc);
    }

pub overflow_add-next : goal.overflow_add-next
overflow_add-next g c =
    let table = c.behind-row.ensures.table in
    let l = target_lt c.args.users.now.most c.requires table c.loop-q.invariant c.in-Some.ensures.steps.0 in
    omega (arith, l, first_all _ c.args.users.now.most)

pub overflow_mul-i : goal.overflow_mul-i
overflow_mul-i g c = omega (arith, place_few c.args.users.now.most c.requires)

pub overflow_add-i : goal.overflow_add-i
overflow_add-i g c =
    let (cut, is, next, fits) = c.in-Some.ensures.steps in
    let table = c.behind-row.ensures.table in
    let most = c.args.users.now.most in
    omega (arith, role most c.requires table c.loop-q.invariant cut, most, place_few most c.requires)

pub overflow_cast-i : goal.overflow_cast-i
overflow_cast-i g c =
    let (cut, is, next, fits) = c.in-Some.ensures.steps in
    let table = c.behind-row.ensures.table in
    let most = c.args.users.now.most in
    omega (arith, role most c.requires table c.loop-q.invariant cut, most, place_few most c.requires)

pub relax-requires : goal.relax-requires
relax-requires g c =
    let f = c.loop-q.invariant.filled in
    let table = c.behind-row.ensures.table in
    let l = target_lt c.args.users.now.most c.requires table c.loop-q.invariant c.in-Some.ensures.steps.0 in
    (omega (arith, l, f.room), omega (arith, l, f.places))

pub loop-q-preserved : goal.loop-q-preserved
loop-q-preserved g c =
    let (cut, is, next, fits) = c.in-Some.ensures.steps in
    let table = c.behind-row.ensures.table in
    let most = c.args.users.now.most in
    turn_more most c.requires table c.loop-q.invariant cut is next c.relax.ensures

pub returns : goal.returns
returns g c =
    let p = c.requires in
    let table = c.behind-row.ensures.table in
    let turn = c.loop-q.invariant in
    let most = c.args.users.now.most in
    let steps = c.in-None.ensures.steps.0 in
    let done = ⊎_elim (λ r. row_done most p table turn r.1.0) (λ r. ups_done most p table turn r.1.0) steps in
    led_on most p table turn done
