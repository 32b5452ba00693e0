-- The least ends, one entry after another: an entry is a multiset with a role more.
use Prim.Native.Nat.{ℕ, suc, ◌+◌, ◌*◌, ◌<◌, ◌≤◌}
use mathlib.Core.Path.{◌≡◌, refl, ◌∙◌}
use mathlib.Core.Logic.{⊎_elim}
use mathlib.Core.List.{List}
use native.Mathlib.Omega.{arith}
use native.Mathlib.Nat.{lt_irrefl, le_refl}
use borrow.Author.Tests.{eqb-true, eqb-false, leb-true, leb-false, ltb-true, ltb-false}
use lib.Dec.{eqb, leb, ltb}
use lib.ListN.{length, get_or, set, length-set}
use lib.Seq.{get_or-set_same, get_or-set_other}
use Rattle.folds.proofs.Bools.{met_or_not}
use Rattle.multisets.specs.Ranks.{starts, first, more}
use Rattle.multisets.specs.Ends.{NextTable, Grows, Came, Filled, Relaxed}
use Rattle.multisets.proofs.Places.{first_le, first_1, grows_within, grows_ahead, grows_one}

-- an end came by one of more entries too
came_later : {d : ℕ} {nexts ends : List ℕ} {k l x c : ℕ} → k ≤ l → Came d nexts k ends x c → Came d nexts l ends x c
came_later h w = record {
  n = w.n;
  m = w.m;
  q = w.q;
  grows = w.grows;
  early = let e = w.early in omega arith;
  reached = w.reached;
  there = w.there;
  end = w.end;
}

-- at first the empty multiset alone is reached
pub filled_none : (d : ℕ) (nexts ends from : List ℕ) → first d 7 ≤ length ends → first d 7 ≤ length from →
    ((x : ℕ) → 0 < x → x < first d 7 → 255 ≤ get_or ends x 0) → Filled d nexts 0 (set ends 0 0) from
filled_none d nexts ends from room places blank = record {
  room = rw (length-set ends 0 0) room;
  places = places;
  none = none;
  within = λ x l h. ⊎_elim
      (λ t. let q : x ≡ 0 = eqb-true x 0 t in rw (q, none) (omega arith))
      (λ t. let ne = eqb-false x 0 t in absurd (omega (arith, other x (omega (arith, ne)) l, h)))
      (met_or_not (eqb x 0));
  least = λ n m q c g l. absurd (omega arith);
  came = λ x pos l h. absurd (omega (arith, other x pos l, h));
}
  where
    none : get_or (set ends 0 0) 0 0 ≡ 0
    none = get_or-set_same ends 0 0 0 (omega (arith, room, first_1 d, first_le d 1 7 (omega arith)))

    other : (x : ℕ) → 0 < x → x < first d 7 → 255 ≤ get_or (set ends 0 0) x 0
    other x pos l = rw (get_or-set_other ends 0 x 0 0 (λ z. omega arith)) (blank x pos l)

module _ {d : ℕ} (most : d ≤ 8) {nexts : List ℕ} {k : ℕ} {ends from : List ℕ} (f : Filled d nexts k ends from) where
  -- entries past k that are those of a multiset that isn't reached lead nowhere
  pub filled_skip : (n m l : ℕ) → m < starts n d → n ≤ 5 → k ≤ l →
      8 * (first d n + m) ≤ k → l ≤ 8 * (first d n + m) + 8 → 255 ≤ get_or ends (first d n + m) 0 →
      Filled d nexts l ends from
  filled_skip n m l some few past low high none = record {
    room = f.room;
    places = f.places;
    none = f.none;
    within = f.within;
    least = λ i j q c g h reached. ⊎_elim
        (λ b. f.least i j q c g (ltb-true c k b) reached)
        (λ b. absurd (lt_irrefl 255 (omega (arith, rw (same i j q c g h (ltb-false c k b)) at reached, none))))
        (met_or_not (ltb c k));
    came = λ x pos h reached. came_later past (f.came x pos h reached);
  }
    where
      same : (i j q c : ℕ) → Grows d i j q c → c < l → k ≤ c → first d i + j ≡ first d n + m
      same i j q c g h b = let e = g.is in let r = g.role in omega arith

  -- a turn: entry k is that of multiset m of n, which is reached, and role q
  module _ (table : NextTable nexts) {n m q at v : ℕ} (g : Grows d n m q k)
      (reached : get_or ends (first d n + m) 0 < 255) (there : at ≡ first d (suc n) + more n m q)
      (next : v ≡ get_or nexts (8 * get_or ends (first d n + m) 0 + q) 0) where
    abbrev i : ℕ
    i = first d n + m

    ahead : i < at
    ahead = rw there (grows_ahead d n m q k most g)

    pub at_within : at < first d 7
    at_within = rw there (grows_within d n m q k most g)

    -- of the entries up to k, this one is the last
    split : {A : Type 0} (a b r c : ℕ) → Grows d a b r c → c < k + 1 →
        (c < k → A) → ((a ≡ n) × (b ≡ m) × (r ≡ q) → A) → A
    split a b r c h l before this = ⊎_elim
        (λ t. before (ltb-true c k t))
        (λ t. let e : c ≡ k = omega (arith, ltb-false c k t) in this (grows_one d a b r n m q k most (rw e at h) g))
        (met_or_not (ltb c k))

    -- the end there is no later
    filled_kept : get_or ends at 0 ≤ v → Filled d nexts (k + 1) ends from
    filled_kept h = record {
      room = f.room;
      places = f.places;
      none = f.none;
      within = f.within;
      least = λ a b r c e l y. split a b r c e l
          (λ z. f.least a b r c e z y)
          (λ z. rw (z.0, z.1, z.2, ← there, ← next) h);
      came = λ x pos l e. came_later (omega arith) (f.came x pos l e);
    }

    -- the end there is later, and the new one is stored
    module _ (h : v < get_or ends at 0) where
      here : get_or (set ends at v) at 0 ≡ v
      here = get_or-set_same ends at v 0 (omega (arith, at_within, f.room))

      other : (x : ℕ) → (x ≡ at → ⊥) → get_or (set ends at v) x 0 ≡ get_or ends x 0
      other x ne = get_or-set_other ends at x v 0 ne

      early : (j : ℕ) → j ≤ i → get_or (set ends at v) j 0 ≡ get_or ends j 0
      early j l = other j (λ e. let a = ahead in omega arith)

      -- the multisets of the entries so far are not behind this one
      entry_le : (a b r c : ℕ) → Grows d a b r c → c < k + 1 → first d a + b ≤ i
      entry_le a b r c e l = let x = e.is in let y = g.is in let z = g.role in omega arith

      least_stored : (a b r c : ℕ) → Grows d a b r c → c < k + 1 → get_or ends (first d a + b) 0 < 255 →
          get_or (set ends at v) (first d (suc a) + more a b r) 0
          ≤ get_or nexts (8 * get_or ends (first d a + b) 0 + r) 0
      least_stored a b r c e l y =
          split a b r c e l
          (λ z. old (f.least a b r c e z y))
          (λ z. rw (z.0, z.1, z.2, ← there, ← next, here) (le_refl v))
        where
          old : get_or ends (first d (suc a) + more a b r) 0 ≤ get_or nexts (8 * get_or ends (first d a + b) 0 + r) 0 →
              get_or (set ends at v) (first d (suc a) + more a b r) 0
              ≤ get_or nexts (8 * get_or ends (first d a + b) 0 + r) 0
          old w = ⊎_elim
              (λ s.
              let z : first d (suc a) + more a b r ≡ at = eqb-true _ _ s in
              let y = rw z at w in
              rw (z, here) (omega arith))
              (λ s. rw (other (first d (suc a) + more a b r) (eqb-false _ _ s)) w)
              (met_or_not (eqb (first d (suc a) + more a b r) at))

      came_here : Came d nexts (k + 1) (set ends at v) at k
      came_here =
          let same = early i (le_refl i) in
          record {
            n = n;
            m = m;
            q = q;
            grows = g;
            early = omega arith;
            reached = rw same reached;
            there = there;
            end = rw (here, same) next;
          }

      came_other : (x c : ℕ) → (x ≡ at → ⊥) → Came d nexts k ends x c → Came d nexts (k + 1) (set ends at v) x c
      came_other x c ne w =
          let l = w.early in
          let same = early (first d w.n + w.m) (entry_le w.n w.m w.q c w.grows (omega arith)) in
          record {
            n = w.n;
            m = w.m;
            q = w.q;
            grows = w.grows;
            early = omega arith;
            reached = rw same w.reached;
            there = w.there;
            end = rw (other x ne, same) w.end;
          }

      small : v < 255 → v ≤ 24
      small l =
          let role = g.role in
          let few = g.few in
          let b = f.within i (omega (arith, ahead, at_within)) reached in
          rw next (table.within (8 * get_or ends i 0 + q) (omega arith) (rw next at l))

      filled_stored : Filled d nexts (k + 1) (set ends at v) (set from at k)
      filled_stored = record {
        room = rw (length-set ends at v) f.room;
        places = rw (length-set from at k) f.places;
        none = early 0 (omega arith) ∙ f.none;
        within = λ j l e. ⊎_elim
            (λ s. let z : j ≡ at = eqb-true _ _ s in rw (z, here) (small (rw (z, here) at e)))
            (λ s. let y = other j (eqb-false _ _ s) in rw y (f.within j l (rw y at e)))
            (met_or_not (eqb j at));
        least = λ a b r c e l y.
            let same = early (first d a + b) (entry_le a b r c e l) in
            rw same (least_stored a b r c e l (rw same at y));
        came = λ x pos l e. ⊎_elim
            (λ s.
            let z : x ≡ at = eqb-true _ _ s in
            rw (z, get_or-set_same from at k 0 (omega (arith, at_within, f.places))) came_here)
            (λ s.
            let ne = eqb-false x at s in
            rw (get_or-set_other from at x k 0 ne) (came_other x _ ne (f.came x pos l (rw (other x ne) at e))))
            (met_or_not (eqb x at));
      }

    pub filled_more : {ends' from' : List ℕ} → Relaxed ends from at v k ends' from' → Filled d nexts (k + 1) ends' from'
    filled_more r = ⊎_elim
        (λ b. let l = leb-true _ _ b in let (x, y) = r.kept l in rw (x, y) (filled_kept l))
        (λ b. let l = leb-false _ _ b in let (x, y) = r.stored l in rw (x, y) (filled_stored l))
        (met_or_not (leb (get_or ends at 0) v))

    -- the end of the multiset stays
    pub end_stays : {ends' from' : List ℕ} → Relaxed ends from at v k ends' from' → get_or ends' i 0 ≡ get_or ends i 0
    end_stays r = ⊎_elim
        (λ b. rw (r.kept (leb-true _ _ b)).0)
        (λ b. let l = leb-false _ _ b in rw (r.stored l).0 (early l i (le_refl i)))
        (met_or_not (leb (get_or ends at 0) v))

    -- and so do the lengths
    pub lengths_stay : {ends' from' : List ℕ} → Relaxed ends from at v k ends' from' →
        (length ends' ≡ length ends) × (length from' ≡ length from)
    lengths_stay r = ⊎_elim
        (λ b. let (x, y) = r.kept (leb-true _ _ b) in rw (x, y) (refl, refl))
        (λ b. let (x, y) = r.stored (leb-false _ _ b) in rw (x, y) (length-set ends at v, length-set from at k))
        (met_or_not (leb (get_or ends at 0) v))

  -- roles that aren't there have no entries
  pub filled_past : (n m l : ℕ) → m < starts n d → n ≤ 5 →
      k ≡ 8 * (first d n + m) + d → l ≤ 8 * (first d n + m) + 8 → k ≤ l → Filled d nexts l ends from
  filled_past n m l some few is high past = record {
    room = f.room;
    places = f.places;
    none = f.none;
    within = f.within;
    least = λ i j q c g h reached. f.least i j q c g (let e = g.is in let r = g.role in omega arith) reached;
    came = λ x pos h reached. came_later past (f.came x pos h reached);
  }
