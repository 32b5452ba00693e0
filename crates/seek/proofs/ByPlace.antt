-- Entries of n roles meet a condition exactly where a place of the multisets of n roles does.
use Prim.Native.Nat.{ℕ, suc, ◌+◌, ◌*◌, ◌^◌, ◌<◌, ◌≤◌}
use mathlib.Core.Bool.{Bool, true, or-true, ◌||◌}
use mathlib.Core.Path.{◌≡◌, refl, sym, ap, ◌∙◌}
use mathlib.Core.List.{List, [], ◌∷◌, append-nil}
use native.Mathlib.Omega.{arith}
use native.Mathlib.Nat.{add-zero, lt_of_lt_of_le}
use borrow.Author.Tests.{eq-eqb, ltb-true, lt-ltb}
use lib.Bits.{bit_or, or_comm, or_zero_r}
use lib.Dec.{eqb}
use lib.ListN.{length, get_or}
use Rattle.folds.specs.Sets.{in_set}
use Rattle.folds.proofs.Bools.{and_left, and_right, and_both}
use Rattle.folds.proofs.Sets.{in_added}
use Rattle.multisets.specs.Ranks.{starts, first, rank_of, Roles}
use Rattle.multisets.specs.Rising.{Entry, Rises, entries_sum, entries_roles, bytes_of}
use Rattle.multisets.specs.Standing.{Stands, role_list, bytes_back}
use Rattle.multisets.specs.Values.{sum_over, set_of, Held, sum_at, set_at}
use Rattle.multisets.specs.Ends.{NextEnds, Filled, Back, back_of}
use Rattle.seek.specs.Search.{met_at}
use Rattle.multisets.proofs.Blocks.{starts_le, rank_lt, rank_total, roles_le}
use Rattle.multisets.proofs.Places.{place_lt, first_more}
use Rattle.multisets.proofs.Sets.{set_of_is, set_at_low}
use Rattle.multisets.proofs.Reach.{stands_roles, roles_length, end_few, least_of, back_of_lem}
use Rattle.multisets.proofs.Turned.{turned, turned_length, turned_sum, turned_roles, bytes_turned}
use Rattle.multisets.proofs.Turned.{sum_roles, set_roles, Heavy, rises_stands, rises_roles, stands_rises}

-- where the roles of a list's set have weight, those of the list have
set_heavy : (w z : List ℕ) → Roles 8 z → ((r : ℕ) → r < 8 → in_set (set_of z) r ≡ true → 0 < get_or w r 0) → Heavy w z
set_heavy w [] roles h = tt
set_heavy w (q ∷ z) roles h = (
  h q roles.0 (member q ∙ rw (eq-eqb q q refl) (or-true (in_set (set_of z) q))),
  set_heavy w z roles.1 (λ r l e. h r l (member r ∙ rw e refl)),
)
  where
    member : (r : ℕ) → in_set (bit_or (2 ^ q) (set_of z)) r ≡ (in_set (set_of z) r || eqb q r)
    member r = rw (or_comm (2 ^ q) (set_of z)) (in_added (set_of z) q r)

-- the level of n roles is made, for all roles below d, and its sums for those below e
pub record Made (sets w : List ℕ) (placed d e n : ℕ) (ends from roles sums : List ℕ) : Type 0 where
  pub most : d ≤ 8
  pub end : e ≤ d
  pub few : n ≤ 6
  pub nexts : List ℕ
  pub next_ends : NextEnds sets nexts
  pub k : ℕ
  pub filled : Filled d nexts k ends from
  pub filled_up : 8 * first d n ≤ k
  pub kr : ℕ
  pub joined : Held d d set_at roles kr
  pub joined_up : first d (suc n) ≤ kr
  pub ks : ℕ
  pub added : Held d e (sum_at w placed) sums ks
  pub added_up : first d (suc n) ≤ ks

module _ {sets w : List ℕ} {placed d e n : ℕ} {ends from roles sums : List ℕ}
    (made : Made sets w placed d e n ends from roles sums) where
  most : d ≤ 8
  most = made.most

  end : e ≤ d
  end = made.end

  end_most : e ≤ 8
  end_most = let a = made.most in let b = made.end in omega arith

  -- what the tables have at the place of n roles below e
  module _ (z : List ℕ) (size : length z ≡ n) (low : rank_of z < starts n e) (all : Roles 8 z) where
    wide : rank_of z < starts n d
    wide = lt_of_lt_of_le low (starts_le n e d end)

    sum_there : get_or sums (first d n + rank_of z) 0 ≡ placed + sum_over (λ r. get_or w r 0) z
    sum_there =
        made.added.each n (rank_of z) made.few low (lt_of_lt_of_le (place_lt d n (rank_of z) wide) made.added_up)
        ∙ ap (λ (s : ℕ). placed + s) (rw (← size) (rank_total (λ r. get_or w r 0) z all))

    set_there : get_or roles (first d n + rank_of z) 0 ≡ set_of z
    set_there =
        let before = lt_of_lt_of_le (place_lt d n (rank_of z) wide) made.joined_up in
        made.joined.each n (rank_of z) made.few wide before ∙ rw (← size) (set_of_is z all)

    set_low : set_of z < 2 ^ e
    set_low =
        let is : set_at n (rank_of z) ≡ set_of z = rw (← size) (set_of_is z all) in
        rw is at (set_at_low e n (rank_of z) end_most low)

  module _ (condition : ℕ → ℕ → Bool) where
    -- where entries meet the condition, the place of their roles does
    pub place_meets : (g : List Entry) → length g ≡ n → ((r : ℕ) → r < 8 → 0 < get_or w r 0 → r < e) →
        Rises sets w 0 g →
        condition (placed + entries_sum w g) (entries_roles g) ≡ true →
        (x : ℕ) × (first d n ≤ x) × (x < first d n + starts n e) × (met_at ends sums roles condition x ≡ true)
    place_meets g many heavy rises met = (first d n + rank_of z, omega arith, omega (arith, low), both)
      where
        h : List Entry
        h = turned g []

        z : List ℕ
        z = role_list h

        size : length z ≡ n
        size = roles_length h ∙ turned_length g [] ∙ add-zero (length g) ∙ many

        below : Roles e z
        below = rises_roles sets w e 0 heavy g [] rises tt

        stands : Stands sets d h
        stands = rises_stands sets w d 0 (λ r l p. lt_of_lt_of_le (heavy r l p) end) g [] rises tt (omega arith)

        low : rank_of z < starts n e
        low = rw size at (rank_lt e end_most z below)

        all : Roles 8 z
        all = roles_le e 8 end_most z below

        sum : get_or sums (first d n + rank_of z) 0 ≡ placed + entries_sum w g
        sum =
            sum_there z size low all
            ∙ ap (λ (s : ℕ). placed + s) (sym (sum_roles w h) ∙ turned_sum w g [] ∙ add-zero (entries_sum w g))

        set : get_or roles (first d n + rank_of z) 0 ≡ entries_roles g
        set = set_there z size low all ∙ sym (set_roles h) ∙ turned_roles g [] ∙ or_zero_r (entries_roles g)

        holds : condition (get_or sums (first d n + rank_of z) 0) (get_or roles (first d n + rank_of z) 0) ≡ true
        holds = rw (sum, set) met

        reached : get_or ends (first d n + rank_of z) 0 < 255
        reached =
            let six : length z ≤ 6 = rw size made.few in
            let up : 8 * first d (length z) ≤ made.k = rw size made.filled_up in
            let l = rw size at (least_of made.next_ends most made.filled h stands six up) in
            let m = end_few made.next_ends most h stands in
            omega arith

        both : met_at ends sums roles condition (first d n + rank_of z) ≡ true
        both = and_both holds (lt-ltb (get_or ends (first d n + rank_of z) 0) 255 reached)

    -- where a place meets the condition, the entries that are found back from it do
    pub found_meets : (x : ℕ) → first d n ≤ x → x < first d n + starts n e → met_at ends sums roles condition x ≡ true →
        ((s v : ℕ) → condition s v ≡ true → v < 2 ^ e → (r : ℕ) → r < 8 → in_set v r ≡ true → 0 < get_or w r 0) →
        (g : List Entry) × (length g ≡ n) × Rises sets w 0 g
        × (condition (placed + entries_sum w g) (entries_roles g) ≡ true)
        × (bytes_of g ≡ bytes_back (back_of ends from n x)) × Back sets d n x ends from
    found_meets x low high met heavy = (
      turned h [],
      turned_length h [] ∙ add-zero (length h) ∙ back.many,
      stands_rises sets w d most h [] back.stands (set_heavy w z all (heavy _ _ holds small)) tt,
      rw (sum, set) holds,
      bytes_turned h [] ∙ append-nil (bytes_back h),
      back,
    )
      where
        holds_there : condition (get_or sums x 0) (get_or roles x 0) ≡ true
        holds_there = and_left _ _ met

        back : Back sets d n x ends from
        back =
            let reached = ltb-true _ _ (and_right (condition (get_or sums x 0) (get_or roles x 0)) _ met) in
            let before : x < first d (suc n) = omega (arith, first_more d n, starts_le n e d end) in
            back_of_lem made.next_ends most made.filled n x made.few low before reached

        h : List Entry
        h = back_of ends from n x

        z : List ℕ
        z = role_list h

        all : Roles 8 z
        all = roles_le d 8 most z (stands_roles sets d h back.stands)

        size : length z ≡ n
        size = roles_length h ∙ back.many

        rank : rank_of z < starts n e
        rank = let p = back.place in omega arith

        small : set_of z < 2 ^ e
        small = set_low z size rank all

        holds : condition (placed + sum_over (λ r. get_or w r 0) z) (set_of z) ≡ true
        holds = rw (sum_there z size rank all, set_there z size rank all) at (rw (← back.place) at holds_there)

        sum : placed + entries_sum w (turned h []) ≡ placed + sum_over (λ r. get_or w r 0) z
        sum = ap (λ (s : ℕ). placed + s) (turned_sum w h [] ∙ add-zero (entries_sum w h) ∙ sum_roles w h)

        set : entries_roles (turned h []) ≡ set_of z
        set = turned_roles h [] ∙ or_zero_r (entries_roles h) ∙ set_roles h
