-- The laws of the conflict list: every pair that conflicts stands in it, and no other; who stands in it by the
-- parameter alone stands in it by acting; and without H records the two readings have one list.
use Prim.Native.Nat.{ℕ, zero, suc, ◌<◌}
use mathlib.Core.Bool.{Bool, true, false, ◌&&◌, ◌||◌, cond, or_assoc, or-false}
use mathlib.Core.Path.{◌≡◌, refl, sym, ◌∙◌}
use mathlib.Core.List.{List, [], ◌∷◌, ◌++◌}
use borrow.Author.Tests.{ltb-true, lt-ltb, eqb-true, eq-eqb}
use lib.Dec.{ltb, eqb}
use Rattle.folds.specs.Below.{any_below, join_below}
use Rattle.folds.proofs.Bools.{and_left, and_right, and_both, and_wider, same_test}
use Rattle.folds.proofs.Tests.{any_some, any_found, any_same}
use Rattle.folds.proofs.Lists.{join_same}
use Rattle.reader.specs.Tables.{hierarchy, contexts, policies, exclusions}
use Rattle.reader.specs.Tables.{role_count, user_count, table_of, record_count}
use Rattle.reader.specs.Fields.{exclusion_kind, exclusion_first, exclusion_second}
use Rattle.reader.specs.Codes.{holds}
use Rattle.weights.specs.Acting.{may_act}
use Rattle.weights.proofs.MayAct.{held_acting, acting_flat}
use Rattle.conflicts.specs.Records.{listed}
use Rattle.conflicts.proofs.Lists.{record_if}
use Rattle.conflicts.specs.Conflicts.{contradict, overlap, both_among, holds_both, pairs_below, conflicts_by, conflicts}

-- a list of whole records
pub data Whole : List ℕ → Type 0 where
  none : Whole []
  more : (x y z : ℕ) {rest : List ℕ} → Whole rest → Whole (x ∷ y ∷ z ∷ rest)

whole_append : {xs ys : List ℕ} → Whole xs → Whole ys → Whole (xs ++ ys)
whole_append none w = w
whole_append (more x y z v) w = more x y z (whole_append v w)

module _ (f : ℕ → List ℕ) (whole : (i : ℕ) → Whole (f i)) where
  whole_join : (n : ℕ) → Whole (join_below n f)
  unfolding join_below
  whole_join zero = none
  whole_join (suc n) = whole_append (whole_join n) (whole n)

-- a record stands in joined lists where it stands in one of them
module _ (k i j : ℕ) where
  listed_append : {xs : List ℕ} (ys : List ℕ) → Whole xs →
      listed k i j (xs ++ ys) ≡ (listed k i j xs || listed k i j ys)
  unfolding listed
  listed_append ys none = refl
  listed_append ys (more x y z {rest} w) =
      rw (listed_append ys w) (sym (or_assoc (eqb x k && (eqb y i && eqb z j)) (listed k i j rest) (listed k i j ys)))

  listed_join : (f : ℕ → List ℕ) → ((t : ℕ) → Whole (f t)) → (n : ℕ) →
      listed k i j (join_below n f) ≡ any_below n (λ t. listed k i j (f t))
  unfolding join_below any_below listed
  listed_join f whole zero = refl
  listed_join f whole (suc n) = listed_append (f n) (whole_join f whole n) ∙ rw (listed_join f whole n)

  listed_if : (kind s t : ℕ) (b : Bool) →
      listed k i j (cond b (kind ∷ s ∷ t ∷ []) []) ≡ (b && (eqb kind k && (eqb s i && eqb t j)))
  unfolding listed
  listed_if kind s t true = or-false (eqb kind k && (eqb s i && eqb t j))
  listed_if kind s t false = refl

-- the pairs of which p holds
module _ (kind n m : ℕ) (p : ℕ → ℕ → Bool) where
  whole_if : (s t : ℕ) (b : Bool) → Whole (cond b (kind ∷ s ∷ t ∷ []) [])
  whole_if s t true = more kind s t none
  whole_if s t false = none

  row_whole : (s : ℕ) → Whole (join_below m (record_if kind s (p s)))
  row_whole s = whole_join _ (λ t. whole_if s t (p s t)) m

  pub pairs_whole : Whole (pairs_below kind n m p)
  unfolding pairs_below
  pairs_whole = whole_join _ row_whole n

  module _ (k i j : ℕ) where
    -- the pair s, t has a record, which is (k, i, j)
    unfoldable is_record : ℕ → ℕ → Bool
    is_record s t = p s t && (eqb kind k && (eqb s i && eqb t j))

    some_record : listed k i j (pairs_below kind n m p) ≡ any_below n (λ s. any_below m (is_record s))
    unfolding pairs_below is_record
    some_record =
        listed_join k i j _ row_whole n
        ∙ any_same _ _ n (λ s l.
        listed_join k i j _ (λ t. whole_if s t (p s t)) m
        ∙ any_same _ _ m (λ t h. listed_if k i j kind s t (p s t)))

    -- k is this kind, and the pair i, j has a record
    unfoldable is_pair : Bool
    is_pair = eqb kind k && (ltb i n && (ltb j m && p i j))

    record_pair : (s t : ℕ) → s < n → t < m → is_record s t ≡ true → is_pair ≡ true
    unfolding is_record is_pair
    record_pair s t ls lt is =
        let same = and_right (p s t) _ is in
        let both = and_right (eqb kind k) _ same in
        let first : s ≡ i = eqb-true _ _ (and_left (eqb s i) _ both) in
        let second : t ≡ j = eqb-true _ _ (and_right (eqb s i) _ both) in
        rw (← first, ← second) (and_both (and_left (eqb kind k) _ same)
        (and_both (lt-ltb s n ls) (and_both (lt-ltb t m lt) (and_left (p s t) _ is))))

    pair_record : is_pair ≡ true → (i < n) × (j < m) × (is_record i j ≡ true)
    unfolding is_record is_pair
    pair_record h =
        let there = and_right (eqb kind k) _ h in
        let rest = and_right (ltb i n) _ there in
        let same = and_both (eq-eqb i i refl) (eq-eqb j j refl) in (
          ltb-true _ _ (and_left (ltb i n) _ there),
          ltb-true _ _ (and_left (ltb j m) _ rest),
          and_both (and_right (ltb j m) _ rest) (and_both (and_left (eqb kind k) _ h) same),
        )

    -- the pairs below n and m of which p holds stand among their records, and no other
    pub pairs_listed : listed k i j (pairs_below kind n m p) ≡ (eqb kind k && (ltb i n && (ltb j m && p i j)))
    unfolding is_pair
    pairs_listed = some_record ∙ same_test _ is_pair to from
      where
        to : any_below n (λ s. any_below m (is_record s)) ≡ true → is_pair ≡ true
        to h =
            let (s, ls, row) = any_some (λ s. any_below m (is_record s)) n h in
            let (t, lt, is) = any_some (is_record s) m row in
            record_pair s t ls lt is

        from : is_pair ≡ true → any_below n (λ s. any_below m (is_record s)) ≡ true
        from h =
            let (li, lj, is) = pair_record h in
            any_found (λ s. any_below m (is_record s)) n i li (any_found (is_record i) m j lj is)

-- where two tests agree, so do the lists of their pairs
pairs_same : (kind n m : ℕ) (p q : ℕ → ℕ → Bool) → ((i j : ℕ) → p i j ≡ q i j) →
    pairs_below kind n m p ≡ pairs_below kind n m q
unfolding pairs_below
pairs_same kind n m p q same = join_same _ _ n (λ i l. join_same _ _ m (λ j h. rw (same i j)))

-- what follows from the second of two tests follows beside the first
or_wider : (a b : Bool) {c : Bool} → (b ≡ true → c ≡ true) → (a || b) ≡ true → (a || c) ≡ true
or_wider true b wider h = refl
or_wider false b wider h = wider h

-- a base's list, by a reading of which roles a user has
module _ (b : List ℕ) where
  abbrev a : List ℕ
  a = table_of b policies

  abbrev n : ℕ
  n = record_count policies a

  abbrev x : List ℕ
  x = table_of b exclusions

  abbrev m : ℕ
  m = record_count exclusions x

  abbrev conflicts_1 : ℕ → ℕ → Bool
  conflicts_1 = contradict (table_of b contexts) a

  abbrev conflicts_2 : ℕ → ℕ → Bool
  conflicts_2 = overlap (role_count b) (table_of b hierarchy) x a

  -- the law of the list: each kind's records are the pairs that conflict
  pub conflicts_listed : (has : List ℕ → ℕ → ℕ → Bool) (k i j : ℕ) → listed k i j (conflicts_by has b)
      ≡ ((eqb 1 k && (ltb i n && (ltb j n && conflicts_1 i j)))
      || ((eqb 2 k && (ltb i n && (ltb j n && conflicts_2 i j)))
      || (eqb 3 k && (ltb i (user_count b) && (ltb j m && holds_both has b i j)))))
  unfolding conflicts_by
  conflicts_listed has k i j =
      listed_append k i j _ (pairs_whole 1 n n conflicts_1)
      ∙ rw (
        listed_append k i j (pairs_below 3 (user_count b) m (holds_both has b)) (pairs_whole 2 n n conflicts_2),
        pairs_listed 1 n n conflicts_1 k i j,
        pairs_listed 2 n n conflicts_2 k i j,
        pairs_listed 3 (user_count b) m (holds_both has b) k i j,
      )

  -- kinds 1 and 2 are the same by every reading
  pub others_listed : (has also : List ℕ → ℕ → ℕ → Bool) (k i j : ℕ) → eqb 3 k ≡ false →
      listed k i j (conflicts_by has b) ≡ listed k i j (conflicts_by also b)
  others_listed has also k i j other =
      rw (conflicts_listed has k i j, conflicts_listed also k i j, other)

  -- whoever holds both roles of an exclusion may act in both
  held_both : (u e : ℕ) → holds_both holds b u e ≡ true → holds_both may_act b u e ≡ true
  unfolding holds_both both_among
  held_both u e =
      let may : (r : ℕ) → holds b u r ≡ true → may_act b u r ≡ true = held_acting b u in
      let first = exclusion_first x e in
      let second = exclusion_second x e in
      and_wider (eqb (exclusion_kind x e) 0) _ (λ h.
      and_both (may first (and_left (holds b u first) _ h)) (may second (and_right (holds b u first) _ h)))

  -- so every record of the list by the parameter alone is one of the list
  pub held_listed : (k i j : ℕ) → listed k i j (conflicts_by holds b) ≡ true → listed k i j (conflicts b) ≡ true
  unfolding conflicts
  held_listed k i j h =
      let pair = and_wider (ltb i (user_count b)) _ (and_wider (ltb j m) _ (held_both i j)) in
      let was = sym (conflicts_listed holds k i j) ∙ h in
      conflicts_listed may_act k i j ∙ or_wider _ _ (or_wider _ _ (and_wider (eqb 3 k) _ pair)) was

  -- without H records whoever may act in both holds both
  flat_both : record_count hierarchy (table_of b hierarchy) ≡ 0 → (u e : ℕ) →
      holds_both may_act b u e ≡ holds_both holds b u e
  unfolding holds_both both_among
  flat_both flat u e = rw (acting_flat b flat u (exclusion_first x e), acting_flat b flat u (exclusion_second x e))

  -- so the two lists are equal
  pub conflicts_flat : record_count hierarchy (table_of b hierarchy) ≡ 0 → conflicts b ≡ conflicts_by holds b
  unfolding conflicts conflicts_by
  conflicts_flat flat =
      rw (pairs_same 3 (user_count b) m (holds_both may_act b) (holds_both holds b) (flat_both flat))
