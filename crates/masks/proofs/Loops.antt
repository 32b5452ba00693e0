-- Steps of the loops that stood where chains stand now; docs/PORT.md names them.
use Prim.Native.Nat.{ℕ, ◌+◌, ◌-◌, ◌*◌, ◌^◌, ◌<◌, ◌≤◌}
use mathlib.Core.Bool.{Bool, true, not}
use mathlib.Core.Path.{◌≡◌, refl, sym, ap, ◌∙◌}
use mathlib.Core.Logic.{⊎_elim}
use mathlib.Core.List.{List}
use native.Mathlib.Nat.{lt_of_lt_of_le, le_trans, mul-le-mul_left, mul-le-mul_right}
use native.Mathlib.Omega.{arith}
use borrow.Author.Count.{below_none}
use borrow.Author.Tests.{eqb-true, eqb-false, ltb-true, ltb-false}
use lib.Bits.{bit_and, bit_or}
use lib.Dec.{eqb, ltb}
use lib.ListN.{length, get_or, set, replicate, length-set, get_or-replicate, get_or-eq_default}
use lib.Seq.{get_or-set_same, get_or-set_other}
use Rattle.folds.specs.Sets.{in_set}
use Rattle.folds.proofs.Bools.{met_or_not, and_left}
use Rattle.folds.proofs.Lists.{stored}
use Rattle.folds.proofs.Sets.{in_set_below}
use Rattle.decision.specs.Conditions.{role_num}
use Rattle.masks.specs.declared.asked.Asked.{Asked}
use Rattle.masks.specs.Asked.{Room}
use Rattle.masks.specs.Clauses.{met, StruckAll, AllBut, NarrowedAll, Filled}
use Rattle.masks.specs.Rows.{Joined, RowFor, Rows}
use Rattle.masks.specs.Sets.{RoleCounts, Doubled, NumbersFit}
use Rattle.masks.proofs.Narrowing.{clause_done}

-- the first v of the masks are doubled
pub record Doubling (half without with v : ℕ) (was masks : List ℕ) : Type 0 where
  pub size : length masks ≡ length was
  pub lower : (u : ℕ) → u < v → get_or masks u 0 ≡ bit_and (get_or was u 0) without
  pub upper : (u : ℕ) → u < v → get_or masks (half + u) 0 ≡ bit_and (get_or was u 0) with
  pub rest : (u : ℕ) → v ≤ u → u < half → get_or masks u 0 ≡ get_or was u 0

pub doubling_none : {half without with : ℕ} {was : List ℕ} → Doubling half without with 0 was was
doubling_none = record {
  size = refl;
  lower = λ u l. absurd (omega arith);
  upper = λ u l. absurd (omega arith);
  rest = λ u l m. refl;
}

module _ {half without with v : ℕ} {was masks : List ℕ} (d : Doubling half without with v was masks) (l : v < half)
    (room : half + half ≤ length was) where
  -- one further: the two stores
  abbrev first : List ℕ
  first = set masks (half + v) (bit_and (get_or masks v 0) with)

  abbrev second : List ℕ
  second = set first v (bit_and (get_or masks v 0) without)

  -- a place other than the two
  apart : (q : ℕ) → (q ≡ v → ⊥) → (q ≡ half + v → ⊥) → get_or second q 0 ≡ get_or masks q 0
  apart q e f =
      get_or-set_other first v q (bit_and (get_or masks v 0) without) 0 e
      ∙ get_or-set_other masks (half + v) q (bit_and (get_or masks v 0) with) 0 f

  at_low : get_or second v 0 ≡ bit_and (get_or was v 0) without
  at_low =
      let size = d.size in
      let m : v < length first = rw (length-set masks (half + v) (bit_and (get_or masks v 0) with)) (omega arith) in
      get_or-set_same first v (bit_and (get_or masks v 0) without) 0 m
      ∙ ap (λ (x : ℕ). bit_and x without) (d.rest v (omega arith) l)

  at_high : get_or second (half + v) 0 ≡ bit_and (get_or was v 0) with
  at_high =
      let size = d.size in
      get_or-set_other first v (half + v) (bit_and (get_or masks v 0) without) 0 (λ e. omega arith)
      ∙ get_or-set_same masks (half + v) (bit_and (get_or masks v 0) with) 0 (omega arith)
      ∙ ap (λ (x : ℕ). bit_and x with) (d.rest v (omega arith) l)

  pub doubling_next : Doubling half without with (v + 1) was second
  doubling_next = record {
    size = length-set first v _ ∙ length-set masks (half + v) _ ∙ d.size;
    lower = λ u m. ⊎_elim (λ t. let e : u ≡ v = eqb-true u v t in rw e at_low)
        (λ t. let e = eqb-false u v t in apart u e (λ q. omega arith) ∙ d.lower u (omega (arith, e)))
        (met_or_not (eqb u v));
    upper = λ u m. ⊎_elim (λ t. let e : u ≡ v = eqb-true u v t in rw e at_high)
        (λ t. let e = eqb-false u v t in
        apart (half + u) (λ q. omega arith) (λ q. e (omega arith)) ∙ d.upper u (omega (arith, e)))
        (met_or_not (eqb u v));
    rest = λ u m h. apart u (λ q. omega arith) (λ q. omega arith) ∙ d.rest u (omega arith) h;
  }

pub doubled : {half without with v : ℕ} {was masks : List ℕ} → Doubling half without with v was masks → v ≡ half
    → Doubled half without with was masks
doubled d e = record { size = d.size; lower = rw e at d.lower; upper = rw e at d.upper }

-- one set more is counted
pub counted_next : {v count : ℕ} {counts : List ℕ} → RoleCounts v counts → v < length counts
    → count ≡ role_num v → RoleCounts (v + 1) (set counts v count)
counted_next {v} {count} {counts} c l e =
    record { each = stored counts v count (λ u x. x ≡ role_num u) l c.each e }

-- the first v of the masks have only clauses that the number of roles meets
pub record Fitted (v : ℕ) (numbers : List ℕ) (start : ℕ) (was sets : List ℕ) : Type 0 where
  pub done : NumbersFit v numbers start was sets
  pub rest : (u : ℕ) → v ≤ u → get_or sets u 0 ≡ get_or was u 0

pub fitted_none : {numbers : List ℕ} {start : ℕ} {was : List ℕ} → Fitted 0 numbers start was was
fitted_none = record { done = record { size = refl; each = below_none _ }; rest = λ u l. refl }

-- one further, where `number` is the mask of the number of roles
pub fitted_next : {v : ℕ} (numbers : List ℕ) {start count at : ℕ} {was sets : List ℕ} → Fitted v numbers start was sets
    → v < length sets → at ≡ count → count ≡ role_num (bit_or start v)
    → Fitted (v + 1) numbers start was (set sets v (bit_and (get_or sets v 0) (get_or numbers at 0)))
fitted_next {v} numbers {start} {count} {at} {was} {sets} f l e q = record {
  done = record {
    size = length-set sets v _ ∙ f.done.size;
    each = stored sets v (bit_and (get_or sets v 0) (get_or numbers at 0))
        (λ u x. x ≡ bit_and (get_or was u 0) (get_or numbers (role_num (bit_or start u)) 0)) l f.done.each
        (rw (f.rest v (omega arith), e, q));
  };
  rest = λ u m. get_or-set_other sets v u _ 0 (λ d. omega arith) ∙ f.rest u (omega arith);
}

pub below_as : {P : ℕ → Type 0} {half n : ℕ} → half ≡ n → ((v : ℕ) → v < n → P v) → (v : ℕ) → v < half → P v
below_as e h v l = h v (rw e at l)

-- fewer masks
pub joined_fewer : {from end more all : ℕ} {masks : List ℕ} → end ≤ more → Joined from more masks all
    → Joined from end masks all
joined_fewer h j = record { has = λ q b l m. j.has q b l (lt_of_lt_of_le m h) }

-- the first m rows are made
pub record RowsTo (entries : List ℕ) (count sum light heavy reached m : ℕ) (sums rows : List ℕ) : Type 0 where
  pub size : length rows ≡ 7
  pub each : (n : ℕ) → n < m
      → RowFor entries (count + n) reached sums (sum + n * light) (sum + n * heavy + 1) (get_or rows n 0)
  pub rest : (n : ℕ) → m ≤ n → get_or rows n 0 ≡ 0

pub rows_none : (entries : List ℕ) (count sum light heavy reached : ℕ) (sums : List ℕ)
    → RowsTo entries count sum light heavy reached 0 sums (replicate 7 0)
rows_none entries count sum light heavy reached sums =
    record { size = refl; each = below_none _; rest = λ n l. zeros n }
  where
    zeros : (n : ℕ) → get_or {A = ℕ} (replicate 7 0) n 0 ≡ 0
    zeros n = ⊎_elim (λ t. get_or-replicate 7 n 0 0 (ltb-true n 7 t))
        (λ t. get_or-eq_default (replicate 7 0) 0 (ltb-false n 7 t)) (met_or_not (ltb n 7))

module _ {entries : List ℕ} {count sum light heavy reached m : ℕ} {sums rows : List ℕ}
    (r : RowsTo entries count sum light heavy reached m sums rows) where
  pub rows_next : {row : ℕ} → m < 7
      → RowFor entries (count + m) reached sums (sum + m * light) (sum + m * heavy + 1) row
      → RowsTo entries count sum light heavy reached (m + 1) sums (set rows m row)
  rows_next {row} l h =
      let size = r.size in
      record {
        size = length-set rows m row ∙ size;
        each = stored rows m row
            (λ n x. RowFor entries (count + n) reached sums (sum + n * light) (sum + n * heavy + 1) x) (omega arith)
            r.each h;
        rest = λ n k. get_or-set_other rows m n row 0 (λ e. omega arith) ∙ r.rest n (omega arith);
      }

  pub rows_all : m ≡ 7 - count → count ≤ 6 → Rows entries count sum light heavy reached sums rows
  rows_all e l = record {
    each = λ n h. r.each n (omega arith);
    past = λ n h. r.rest n (omega arith);
  }

-- the sums of n entries more are among the masks
pub record Within (n count sum light heavy size : ℕ) : Type 0 where
  pub number : count + n ≤ 6
  pub low : n * light ≤ n * heavy
  pub high : sum + n * heavy + 1 ≤ size

pub sums_within : (n count sum light heavy size : ℕ) → count ≤ 6 → n < 7 - count → light ≤ heavy
    → sum + (6 - count) * heavy + 1 ≤ size → Within n count sum light heavy size
sums_within n count sum light heavy size few l h within =
    let most : n * heavy ≤ (6 - count) * heavy = mul-le-mul_right heavy (omega arith) in
    record { number = omega arith; low = mul-le-mul_left n h; high = le_trans (omega arith) within }

-- one mask more
pub filled_next : {x own : ℕ} {was masks : List ℕ} → x < length masks → Filled x own was masks
    → Filled (x + 1) own was (set masks x own)
filled_next {x} {own} {was} {masks} l f = record {
  size = length-set masks x own ∙ f.size;
  each = stored masks x own (λ q v. v ≡ own) l f.each refl;
}

-- the masks' numbers, with those of the sums
pub record RoomAll (count : ℕ) (asked : Asked) (s : List ℕ) : Type 0 where
  pub room : Room asked.entries asked.numbers asked.roles
  pub sums : count ≤ length s
  pub few : count ≤ 256

-- the masks keep their numbers
pub room_after : {count others : ℕ} {stays : ℕ → ℕ → Bool} {was asked : Asked} {s₀ s : List ℕ} → RoomAll count was s₀
    → StruckAll count stays others was s₀ asked s → RoomAll count asked s
room_after r h = record {
  room = record {
    entries = h.entries.size ∙ r.room.entries;
    numbers = h.numbers.size ∙ r.room.numbers;
    roles = h.roles.size ∙ r.room.roles;
  };
  sums = rw h.sums.size r.sums;
  few = r.few;
}

-- the loop over the clauses, for as many masks of sums as are asked for: those of `rest` are left
pub record Turn (k : List ℕ) (own count : ℕ) (s₀ : List ℕ) (rest : ℕ) (asked : Asked) (s : List ℕ) : Type 0 where
  pub room : RoomAll count asked s
  pub size : length s ≡ length s₀
  pub within : (b : ℕ) → in_set rest b ≡ true → in_set own b ≡ true
  pub narrowed : NarrowedAll k own rest count asked s

module _ {k : List ℕ} {own count : ℕ} {s₀ : List ℕ} {rest : ℕ} {was : Asked} {s : List ℕ}
    (turn : Turn k own count s₀ rest was s) where
  -- a clause of the rest is one of the table
  pub in_table : {c i : ℕ} → own < 2 ^ c → in_set rest i ≡ true → i < c
  in_table {c} {i} small has = in_set_below c own i small (turn.within i has)

  -- one clause further
  pub next : {i others left : ℕ} {asked : Asked} {s' : List ℕ} → in_set rest i ≡ true → AllBut own i others
      → AllBut rest i left → StruckAll count (met k i) others was s asked s' → Turn k own count s₀ left asked s'
  next {i} has o l struck = record {
    room = room_after turn.room struck;
    size = struck.sums.size ∙ turn.size;
    within = λ b h. turn.within b (and_left (in_set rest b) (not (eqb b i)) (sym (l.members b) ∙ h));
    narrowed = clause_done k own rest i has o l turn.narrowed struck;
  }
