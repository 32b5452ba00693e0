-- The tables of a search as one value: what its arrays hold.
use Rattle.std.specs.Prelude.{ℕ, suc, ◌+◌, ◌*◌, ◌<◌, ◌≤◌, ◌≡◌, List, length, get_or}
use mathlib.Core.HLevel.{Σ_prop_path}
use mathlib.Core.Logic.{◌⊎◌, ⊎_elim}
use Rattle.std.proofs.Common.{ap, arith}
use native.Mathlib.Nat.{eq-or-lt_of_le}
use borrow.Author.Tests.{leb-true, leb-false}
use lib.Dec.{leb}
use Rattle.folds.proofs.Bools.{met_or_not}
use Rattle.folds.proofs.Numbers.{sum_step, sum_le_sum}
use Rattle.std.proofs.Props.{props}
use Rattle.multisets.specs.Ranks.{starts, first, more}
use Rattle.multisets.specs.Ends.{NextTable, Grows, Came, Filled}
use Rattle.multisets.specs.Levels.{Shaped}

-- up to the level of `known` roles the ends are those of the users' next ends, and by which entries they came; up to
-- that of `shaped` roles the rest is made; and there is room for the sums
pub record Laid (d known shaped : ℕ) (nexts t ends from roles sums : List ℕ) : Type 0 where
  pub most : d ≤ 8
  pub table : NextTable nexts
  pub within : known ≤ shaped
  pub shape : Shaped d shaped t roles
  pub filled : Filled d nexts (8 * first d known) ends from
  pub room : first d 7 ≤ length sums

module _ (d : ℕ) where
  pub first_more : (n : ℕ) → first d (suc n) ≡ first d n + starts n d
  unfolding first
  first_more n = sum_step (λ i. starts i d) n

  pub first_le : (n k : ℕ) → n ≤ k → first d n ≤ first d k
  unfolding first
  first_le n k h = sum_le_sum (λ i. starts i d) n k h

  -- a place belongs to one multiset
  pub one_level : (n m k l : ℕ) → m < starts n d → l < starts k d → first d n + m ≡ first d k + l → n ≡ k
  one_level n m k l h j e =
      ⊎_elim
      (λ t. not_before (eq-or-lt_of_le (leb-true n k t)))
      (λ t. absurd (omega (arith, first_more k, first_le (suc k) n (leb-false n k t))))
      (met_or_not (leb n k))
    where
      not_before : (n ≡ k) ⊎ (n < k) → n ≡ k
      not_before s = ⊎_elim (λ q. q) (λ b. absurd (omega (arith, first_more n, first_le (suc n) k b))) s

-- an entry is of one multiset and one role
pub grows_one : (d n m q k l r : ℕ) (c : ℕ) → d ≤ 8 → Grows d n m q c → Grows d k l r c → (n ≡ k) × (m ≡ l) × (q ≡ r)
grows_one d n m q k l r c most a b =
    let i = a.is in
    let j = b.is in
    let x = a.role in
    let y = b.role in
    let same : q ≡ r = omega arith in
    let place : first d n + m ≡ first d k + l = omega arith in
    let level = one_level d n m k l a.some b.some place in
    (level, (let z = rw level at place in omega arith), same)

same_triple : (a b : ℕ × ℕ × ℕ) → (a.0 ≡ b.0) × (a.1 ≡ b.1) × (a.2 ≡ b.2) → a ≡ b
same_triple a b e = λ i. (e.0 i, e.1 i, e.2 i)

-- the end at a place came by one multiset and one role
module _ (d k x c : ℕ) (nexts ends : List ℕ) where
  abbrev Facts : ℕ × ℕ × ℕ → Type 0
  Facts w =
      Grows d w.0 w.1 w.2 c × (c < k) × (get_or ends (first d w.0 + w.1) 0 < 255)
      × (x ≡ first d (suc w.0) + more w.0 w.1 w.2)
      × (get_or ends x 0 ≡ get_or nexts (8 * get_or ends (first d w.0 + w.1) 0 + w.2) 0)

  facts_prop : (w : ℕ × ℕ × ℕ) → IsProp (Facts w)
  facts_prop w = hlevel props

  abbrev came_of : (w : ℕ × ℕ × ℕ) × Facts w → Came d nexts k ends x c
  came_of t = record {
    n = t.0.0;
    m = t.0.1;
    q = t.0.2;
    grows = t.1.0;
    early = t.1.1;
    reached = t.1.2;
    there = t.1.3;
    end = t.1.4;
  }

  abbrev facts_of : Came d nexts k ends x c → (w : ℕ × ℕ × ℕ) × Facts w
  facts_of a = ((a.n, a.m, a.q), (a.grows, a.early, a.reached, a.there, a.end))

  Came-prop : d ≤ 8 → IsProp (Came d nexts k ends x c)
  Came-prop most a b =
      let one = grows_one d a.n a.m a.q b.n b.m b.q c most a.grows b.grows in
      let same : facts_of a ≡ facts_of b = Σ_prop_path facts_prop (same_triple (a.n, a.m, a.q) (b.n, b.m, b.q) one) in
      ap came_of same

pub Laid-prop : {d known shaped : ℕ} {nexts t ends from roles sums : List ℕ} →
    IsProp (Laid d known shaped nexts t ends from roles sums)
Laid-prop {d} {known} {shaped} {nexts} {t} {ends} {from} {roles} {sums} a b =
    let one : (k x c : ℕ) → IsProp (Came d nexts k ends x c) = λ k x c. Came-prop d k x c nexts ends a.most in
    let all : IsProp (Laid d known shaped nexts t ends from roles sums) = hlevel (props, one) in
    all a b
