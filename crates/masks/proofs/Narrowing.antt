-- The masks as clause after clause is struck out.
use Prim.Native.Nat.{ℕ, zero, suc, ◌-◌, ◌/◌, ◌%◌, ◌^◌, ◌<◌, ◌≤◌}
use mathlib.Core.Bool.{Bool, true, false, ◌&&◌, ◌||◌, not, and-true, or-true, or-false}
use mathlib.Core.Path.{◌≡◌, refl, sym, ◌∙◌}
use mathlib.Core.Logic.{⊎_elim}
use mathlib.Core.List.{List}
use native.Mathlib.Omega.{arith}
use borrow.Author.Tests.{eq-eqb, eqb-true}
use lib.Dec.{eqb, eqb-suc-suc, eqb-suc-zero, eqb-zero-suc}
use lib.ListN.{length, get_or, replicate, length-replicate, get_or-replicate}
use lib.Pow.{pow_pos}
use Rattle.folds.specs.Sets.{in_set}
use Rattle.folds.proofs.Bools.{met_or_not, and_left}
use Rattle.folds.proofs.Sets.{in_half, in_set_below}
use Rattle.masks.specs.declared.asked.Asked.{Asked}
use Rattle.masks.specs.Clauses.{met, Struck, StruckAll, AllBut, Narrowed, NarrowedAll, Filled}

-- the lowest bit of a set that has 0
odd : (s : ℕ) → in_set s 0 ≡ true → s % 2 ≡ 1
unfolding in_set
odd s h = let e : s / 2 ^ 0 % 2 ≡ 1 = eqb-true (s / 2 ^ 0 % 2) 1 h in omega arith

-- 2 ^ i is no more than a set with i in it
pub bit_le : (i s : ℕ) → in_set s i ≡ true → 2 ^ i ≤ s
bit_le zero s h = let e = odd s h in omega arith
bit_le (suc i) s h = let l : 2 ^ i ≤ s / 2 = bit_le i (s / 2) (sym (in_half s i) ∙ h) in omega arith

-- the set without it
in_less : (i s : ℕ) → in_set s i ≡ true → (b : ℕ) → in_set (s - 2 ^ i) b ≡ (in_set s b && not (eqb b i))
unfolding in_set
in_less zero s h zero =
    let e = odd s h in
    let z : (s - 1) / 1 % 2 ≡ 0 = omega arith in
    let o : s / 1 % 2 ≡ 1 = omega arith in
    rw (z, o)
in_less zero s h (suc b) =
    let e = odd s h in
    let z : (s - 1) / 2 ≡ s / 2 = omega arith in
    rw (in_half (s - 1) b, in_half s b, z, eqb-suc-zero) (sym (and-true (in_set (s / 2) b)))
in_less (suc i) s h zero =
    let l : 2 ^ i ≤ s / 2 = bit_le i (s / 2) (sym (in_half s i) ∙ h) in
    let z : (s - 2 ^ suc i) / 1 % 2 ≡ s / 1 % 2 = omega arith in
    rw (z, eqb-zero-suc) (sym (and-true (eqb (s / 1 % 2) 1)))
in_less (suc i) s h (suc b) =
    let m = sym (in_half s i) ∙ h in
    let l : 2 ^ i ≤ s / 2 = bit_le i (s / 2) m in
    let z : (s - 2 ^ suc i) / 2 ≡ s / 2 - 2 ^ i = omega arith in
    rw (in_half (s - 2 ^ suc i) b, in_half s b, z, eqb-suc-suc) (in_less i (s / 2) m b)

pub all_but : (i s : ℕ) → in_set s i ≡ true → AllBut s i (s - 2 ^ i)
all_but i s h = record { fewer = omega (arith, bit_le i s h, pow_pos i); members = in_less i s h }

-- clause i is done: it is struck out, and in the rest no more
module _ (k : List ℕ) (own rest i : ℕ) {others left : ℕ} (has : in_set rest i ≡ true) (o : AllBut own i others)
    (l : AllBut rest i left) where
  step : (a : ℕ) {m : ℕ} {masks now : List ℕ} → Narrowed k own rest m a masks → Struck m (met k i a) others masks now
      → Narrowed k own left m a now
  step a n s = record {
    members = λ x b h. s.members x b h ∙ rw (n.members x b h, o.members b, l.members b) (by x b);
  }
    where
      done : (o m : Bool) → ((o && true) && (m || (o && false))) ≡ (o && m)
      done true m = or-false m
      done false m = refl

      other : (o r m n : Bool) → ((o && (r || m)) && (n || (o && true))) ≡ (o && ((r && true) || m))
      other true r m n = rw (or-true, and-true, and-true)
      other false r m n = refl

      by : (x b : ℕ) →
          ((in_set own b && (in_set rest b || met k b a x)) && (met k i a x || (in_set own b && not (eqb b i))))
          ≡ (in_set own b && ((in_set rest b && not (eqb b i)) || met k b a x))
      by x b = ⊎_elim
          (λ t. let e : b ≡ i = eqb-true b i t in rw (e, eq-eqb i i refl, has) (done (in_set own i) (met k i a x)))
          (λ t. rw t (other (in_set own b) (in_set rest b) (met k b a x) (met k i a x)))
          (met_or_not (eqb b i))

  pub clause_done : {count : ℕ} {was asked : Asked} {s s' : List ℕ} → NarrowedAll k own rest count was s
      → StruckAll count (met k i) others was s asked s' → NarrowedAll k own left count asked s'
  clause_done n s = record {
    entries = step 0 n.entries s.entries;
    sums = step 1 n.sums s.sums;
    numbers = step 2 n.numbers s.numbers;
    roles = step 3 n.roles s.roles;
  }

-- the loop over the clauses: those of `rest` are left
pub record Turn (k : List ℕ) (own : ℕ) (s₀ : List ℕ) (rest : ℕ) (asked : Asked) (s : List ℕ) : Type 0 where
  pub size : length s ≡ length s₀
  pub within : (b : ℕ) → in_set rest b ≡ true → in_set own b ≡ true
  pub narrowed : NarrowedAll k own rest (length s₀) asked s

module _ {k : List ℕ} {own : ℕ} {s₀ : List ℕ} {rest : ℕ} {was : Asked} {s : List ℕ}
    (turn : Turn k own s₀ rest was s) where
  -- a clause of the rest is one of the table
  pub in_table : {c i : ℕ} → own < 2 ^ c → in_set rest i ≡ true → i < c
  in_table {c} {i} small has = in_set_below c own i small (turn.within i has)

  -- one clause further
  pub next : {i others left : ℕ} {asked : Asked} {s' : List ℕ} → in_set rest i ≡ true → AllBut own i others
      → AllBut rest i left → StruckAll (length s) (met k i) others was s asked s' → Turn k own s₀ left asked s'
  next {i} has o l struck = record {
    size = struck.sums.size ∙ turn.size;
    within = λ b h. turn.within b (and_left (in_set rest b) (not (eqb b i)) (sym (l.members b) ∙ h));
    narrowed = clause_done k own rest i has o l turn.narrowed (rw turn.size at struck);
  }

-- masks that have all clauses, none of which is struck out yet
full : (k : List ℕ) (own : ℕ) {count : ℕ} (a : ℕ) {masks : List ℕ} → ((x : ℕ) → x < count → get_or masks x 0 ≡ own)
    → Narrowed k own own count a masks
full k own a h = record { members = λ x b l. rw (h x l) (by (in_set own b) (met k b a x)) }
  where
    by : (o m : Bool) → o ≡ (o && (o || m))
    by true m = refl
    by false m = refl

-- a slice filled by the library
pub filled : {count own : ℕ} {was s : List ℕ} → length was ≡ count → s ≡ replicate count own → Filled count own was s
filled {count} {own} c e = record {
  size = rw (e, length-replicate) (sym c);
  each = λ x l. rw e (get_or-replicate count x own 0 l);
}

-- those of each attribute
pub full_all : (k : List ℕ) (own count : ℕ) {asked : Asked} {s₀ s : List ℕ} → asked.entries ≡ replicate 7 own
    → asked.numbers ≡ replicate 9 own → asked.roles ≡ replicate 8 own → Filled count own s₀ s
    → NarrowedAll k own own count asked s
full_all k own count e n r h = record {
  entries = full k own 0 (λ x l. rw e (get_or-replicate 7 x own 0 l));
  sums = full k own 1 h.each;
  numbers = full k own 2 (λ x l. rw n (get_or-replicate 9 x own 0 l));
  roles = full k own 3 (λ x l. rw r (get_or-replicate 8 x own 0 l));
}

-- the same masks of sums in a longer list
pub narrowed_same : {k : List ℕ} {own rest count : ℕ} {asked : Asked} {s s' : List ℕ}
    → NarrowedAll k own rest count asked s → ((x : ℕ) → x < count → get_or s' x 0 ≡ get_or s x 0)
    → NarrowedAll k own rest count asked s'
narrowed_same n e = record {
  entries = n.entries;
  sums = record { members = λ x b l. rw (e x l) (n.sums.members x b l) };
  numbers = n.numbers;
  roles = n.roles;
}
