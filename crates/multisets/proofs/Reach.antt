-- What the least ends tell of groups.
use Prim.Native.Nat.{ℕ, zero, suc, ◌+◌, ◌-◌, ◌*◌, ◌/◌, ◌%◌, ◌<◌, ◌≤◌}
use mathlib.Core.Bool.{Bool, true, ◌&&◌}
use mathlib.Core.Path.{◌≡◌, refl, sym, ap, ◌∙◌}
use mathlib.Core.Logic.{⊎_elim}
use mathlib.Core.List.{List, [], ◌∷◌}
use native.Mathlib.Omega.{arith}
use native.Mathlib.Nat.{le_trans, lt_of_le_of_lt, lt_of_not-le}
use borrow.Author.Tests.{leb-true, leb-false, le-leb, ltb-true, ltb-false}
use lib.Dec.{leb, ltb}
use lib.ListN.{length, get_or, get_or-eq_default}
use Rattle.folds.specs.Below.{first_below}
use Rattle.folds.specs.Sets.{in_set}
use Rattle.folds.proofs.Bools.{met_or_not, clash, and_left, and_right, and_both}
use Rattle.folds.proofs.Tests.{first_at, first_least, first_le}
use Rattle.folds.proofs.Sets.{in_none}
use Rattle.multisets.specs.Ranks.{starts, first, more, rank_of, Roles}
use Rattle.multisets.specs.Rising.{Entry}
use Rattle.multisets.specs.Standing.{end_of, Stands, role_list}
use Rattle.multisets.specs.Ends.{Next, NextEnd, NextEnds, Grows, Came, Filled, back_of, Back}
use Rattle.multisets.proofs.Blocks.{rank_lt}
use Rattle.multisets.proofs.Places.{first_more, first_0, first_1, place_lt, one_level, grows_lt}
use Rattle.multisets.proofs.Places as places

module _ (sets : List ℕ) where
  -- a user who may act in a role is there
  pub acting_there : (u r : ℕ) → in_set (get_or sets u 0) r ≡ true → u < length sets
  acting_there u r e =
      lt_of_not-le (λ (l : length sets ≤ u).
      clash (in_set (get_or sets u 0) r) e (rw (get_or-eq_default sets 0 l) (in_none r)))

  -- user k is not before `from` and may act in the role
  abbrev asked : ℕ → ℕ → ℕ → Bool
  asked from r k = leb from k && in_set (get_or sets k 0) r

  -- from any user on, the first who may act in the role is not behind one who may
  next_from : (from v r : ℕ) → from ≤ v → in_set (get_or sets v 0) r ≡ true → (u : ℕ) × Next sets from r u × (u ≤ v)
  next_from from v r h e = (first_below (length sets) (asked from r), is_next, not_behind)
    where
      not_behind : first_below (length sets) (asked from r) ≤ v
      not_behind =
          ⊎_elim (λ t. leb-true _ _ t)
          (λ t.
          let missed = first_least (asked from r) (length sets) v (leb-false _ _ t) in
          clash (asked from r v) (and_both (le-leb from v h) e) missed)
          (met_or_not (leb (first_below (length sets) (asked from r)) v))

      there : asked from r (first_below (length sets) (asked from r)) ≡ true
      there = first_at (asked from r) (length sets) (lt_of_le_of_lt not_behind (acting_there v r e))

      is_next : Next sets from r (first_below (length sets) (asked from r))
      is_next = record {
        low = leb-true _ _ (and_left (leb from (first_below (length sets) (asked from r))) _ there);
        high = first_le (asked from r) (length sets);
        found = λ k. and_right (leb from (first_below (length sets) (asked from r))) _ there;
        first = λ k a b. rw (le-leb from k a) at (first_least (asked from r) (length sets) k b);
      }

  -- the next end from a place is not behind any user from there on who may act in the role
  next_le : (from r end u : ℕ) → NextEnd sets from r end → from ≤ u → in_set (get_or sets u 0) r ≡ true → end ≤ u + 1
  next_le from r end u n l e =
      ⊎_elim (λ t. found (ltb-true _ _ t)) (λ t. missed (ltb-false _ _ t)) (met_or_not (ltb end 255))
    where
      found : end < 255 → end ≤ u + 1
      found h =
          let (v, user, is, x) = n.some h in
          ⊎_elim
          (λ s. let m = leb-true v u s in omega arith)
          (λ s. clash (in_set (get_or sets u 0) r) e (x.first u l (leb-false v u s)))
          (met_or_not (leb v u))

      missed : 255 ≤ end → end ≤ u + 1
      missed h =
          let (v, x, m) = next_from from u r l e in
          absurd (n.none h v (lt_of_le_of_lt m (acting_there u r e)) x)

-- the roles of a group that stands
pub stands_roles : (sets : List ℕ) (d : ℕ) (g : List Entry) → Stands sets d g → Roles d (role_list g)
stands_roles sets d [] s = tt
stands_roles sets d (e ∷ g) s = (s.1.role, stands_roles sets d g s.2)

pub roles_length : (g : List Entry) → length (role_list g) ≡ length g
roles_length [] = refl
roles_length (e ∷ g) = ap suc (roles_length g)

module _ {sets nexts : List ℕ} (next_ends : NextEnds sets nexts) {d : ℕ} (most : d ≤ 8) where
  -- a group's users are among 24
  pub end_few : (g : List Entry) → Stands sets d g → end_of g ≤ 24
  end_few [] s = omega arith
  end_few (e ∷ g) s =
      let l = acting_there sets e.user e.role s.1.acting in
      let u = next_ends.users in
      omega arith

  module _ {k : ℕ} {ends from : List ℕ} (f : Filled d nexts k ends from) where
    -- no group ends before the end at its roles
    pub least_of : (g : List Entry) → Stands sets d g → length (role_list g) ≤ 6 →
        8 * first d (length (role_list g)) ≤ k →
        get_or ends (first d (length (role_list g)) + rank_of (role_list g)) 0 ≤ end_of g
    least_of [] s few done = let z : first d 0 + 0 ≡ 0 = omega (arith, first_0 d) in rw (z, f.none) (omega arith)
    least_of (e ∷ g) s few done =
        let z = role_list g in
        let n = length z in
        let m = rank_of z in
        let q = e.role in
        let rise = first_more d n in
        let before : get_or ends (first d n + m) 0 ≤ end_of g = least_of g s.2 (omega arith) (omega arith) in
        let near = end_few g s.2 in
        let role = s.1.role in
        let some = rank_lt d most z (stands_roles sets d g s.2) in
        let entry = 8 * (first d n + m) + q in
        let grows : Grows d n m q entry = record { few = omega arith; some = some; role = role; is = refl } in
        let step = f.least n m q _ grows (omega arith) (omega arith) in
        let end = get_or ends (first d n + m) 0 in
        let asked = next_ends.end end q (omega arith) (omega arith) in
        le_trans step (next_le sets end q _ e.user asked (le_trans before s.0) s.1.acting)

    -- one entry back, of plain values: the group without it is found back already
    module _ {n x : ℕ} (few : n ≤ 5) (low : first d (suc n) ≤ x) (high : x < first d (suc (suc n)))
        (reached : get_or ends x 0 < 255) (c : Came d nexts k ends x (get_or from x 0)) where
      abbrev entry : ℕ
      entry = get_or from x 0

      -- it came from the level before
      level : c.n ≡ n
      level =
          let there = c.there in
          let up = grows_lt d c.n c.m c.q entry most c.grows in
          let m = more c.n c.m c.q in
          let j = x - first d (suc n) in
          let some : j < starts (suc n) d = omega (arith, first_more d (suc n)) in
          let e : suc c.n ≡ suc n = one_level d (suc c.n) m (suc n) j up some (omega arith) in
          omega arith

      role_is : entry % 8 ≡ c.q
      role_is = let e = c.grows.is in let r = c.grows.role in omega arith

      place_is : entry / 8 ≡ first d n + c.m
      place_is = let e = c.grows.is in let r = c.grows.role in rw (← level) (omega arith)

      some : c.m < starts n d
      some = rw level at c.grows.some

      end_is : get_or ends x 0 ≡ get_or nexts (8 * get_or ends (entry / 8) 0 + entry % 8) 0
      end_is = rw (place_is, role_is, ← level) c.end

      before_reached : get_or ends (entry / 8) 0 < 255
      before_reached = rw (place_is, ← level) c.reached

      back_more : Back sets d n (entry / 8) ends from → Back sets d (suc n) x ends from
      back_more b =
          let g = back_of ends from n (entry / 8) in
          let l = c.grows.role in
          let low_end = place_lt d n c.m some in
          let last = places.first_le d (suc n) 7 (omega arith) in
          let within = f.within (entry / 8) (rw place_is (omega arith)) before_reached in
          let is_next = next_ends.end (get_or ends (entry / 8) 0) (entry % 8) within (omega arith) in
          let (u, user, ended, next) = is_next.some (rw (← end_is) reached) in
          let is_end : get_or ends x 0 ≡ u + 1 = end_is ∙ ended in
          let is_user : get_or ends x 0 - 1 ≡ u = omega arith in
          let after = next.low in
          let nearer = b.end in
          let size : length (role_list g) ≡ n = roles_length g ∙ b.many in
          let rank : rank_of (role_list g) ≡ c.m = (let e = b.place in let p = place_is in omega arith) in
          record {
            stands = (
              rw (b.end, is_user) after,
              record { role = rw role_is l; acting = rw is_user (next.found user) },
              b.stands,
            );
            many = ap suc b.many;
            end = omega arith;
            place = rw (size, rank, role_is) (sym (rw level at c.there));
            way = (omega (arith, places.first_le d (suc (suc n)) 7 (omega arith)), omega arith, b.way);
          }

      -- where to look for it
      before_low : first d n ≤ entry / 8
      before_low = rw place_is (omega arith)

      before_high : entry / 8 < first d (suc n)
      before_high = rw place_is (place_lt d n c.m some)

    -- from a place that is reached, a group is found back
    pub back_of_lem : (n x : ℕ) → n ≤ 6 → first d n ≤ x → x < first d (suc n) → get_or ends x 0 < 255 →
        Back sets d n x ends from
    back_of_lem zero x few low high reached =
        let e : x ≡ 0 = omega (arith, first_1 d) in
        let z : first d 0 + 0 ≡ 0 = omega (arith, first_0 d) in
        let room : 0 < first d 7 = omega (arith, first_1 d, places.first_le d 1 7 (omega arith)) in
        rw e (record { stands = tt; many = refl; end = sym f.none; place = z; way = room })
    back_of_lem (suc n) x few low high reached =
        let pos : 0 < x = omega (arith, places.first_le d 1 (suc n) (omega arith), first_1 d) in
        let within : x < first d 7 = omega (arith, places.first_le d (suc (suc n)) 7 (omega arith)) in
        let c = f.came x pos within reached in
        let five : n ≤ 5 = omega arith in
        let low_before = before_low five low high reached c in
        let high_before = before_high five low high reached c in
        let reached_before = before_reached five low high reached c in
        back_more five low high reached c
        (back_of_lem n (get_or from x 0 / 8) (omega arith) low_before high_before reached_before)
