-- Laws of the conflict list: records written one behind the other, their number, and the rows of bits as the list.
use Prim.Native.Nat.{ℕ, zero, suc, ◌+◌, ◌-◌, ◌*◌, ◌^◌, ◌<◌, ◌≤◌}
use mathlib.Core.Bool.{Bool, true, false, ◌&&◌, not, cond, and-true}
use mathlib.Core.Path.{◌≡◌, refl, sym, ap, ap₂, ◌∙◌}
use mathlib.Core.List.{List, [], ◌∷◌, ◌++◌, append_assoc}
use native.Mathlib.Numerals.{add-one}
use native.Mathlib.Nat.{add-zero, zero-add, not-suc-le-zero}
use native.Mathlib.Omega.{arith}
use borrow.Rule.Slice.PartMut.{put_mid}
use borrow.Author.Tests.{lt-ltb, le-ltb, eq-eqb, ne_eqb}
use lib.Bits.{bit_and}
use lib.Count.{ones, count_trailing_zeros}
use lib.Dec.{ltb, eqb}
use lib.ListN.{length, get_or, take, drop, length-append}
use lib.Seq.{sets, sets-eq}
use Rattle.std.specs.List.{sum_by}
use Rattle.std.proofs.lemmas.List.Edits.{paste_all}
use Rattle.std.proofs.lemmas.List.Sums.{sum_by_more}
use Rattle.std.proofs.lemmas.Slice.{put_mid-paste}
use Rattle.folds.specs.Below.{sum_below, count_below, join_below}
use Rattle.folds.specs.Sets.{in_set}
use Rattle.folds.proofs.Lists.{join_none, join_more, join_tail, join_length, join_same, sets-append}
use Rattle.folds.proofs.Tests.{split}
use Rattle.folds.proofs.Numbers.{sum_le_sum, count_none, count_more, count_le}
use Rattle.folds.proofs.Sets.{in_none, ones_set, set_of_members}
use Rattle.reader.specs.Rules.{refusal_of}
use Rattle.conflicts.proofs.Tables.{few_policies, few_exclusions}
use Rattle.folds.proofs.Lowest.{lowest, without_lowest}
use Rattle.reader.specs.Tables.{users, policies, table_of, record_count}
use Rattle.conflicts.specs.Conflicts.{pairs_below, conflicts_by, conflicts, conflict_count}
use Rattle.conflicts.specs.Rows.{Rows, Contradictions, Overlaps, Holders, row_records, rows_records, all_records}

-- the bytes of a record put in their place
pub put_record : (out now : List ℕ) (at n : ℕ) (xs : List ℕ) → n ≡ length xs → at + n ≤ length out → now ≡ xs →
    put_mid at (at + n - at) out now ≡ sets out at xs
put_record out now at n xs size room is =
    put_mid-paste at (at + n - at) out now xs n is (omega arith) size
    ∙ paste_all out at xs n size
    ∙ rw size
    (sym (sets-eq xs out at (rw (← size) room) ∙ append_assoc (take at out) xs (drop (at + length xs) out)))

-- `now` is `out` with `xs` written over it from `at` on, and `next` is the place behind them
pub record Wrote (out : List ℕ) (at : ℕ) (xs now : List ℕ) (next : ℕ) : Type 0 where
  pub place : next ≡ at + length xs
  pub bytes : now ≡ sets out at xs

pub wrote_none : (out : List ℕ) (at : ℕ) → Wrote out at [] out at
wrote_none out at = record { place = sym (add-zero at); bytes = refl }

module _ {out xs now : List ℕ} {at next : ℕ} (w : Wrote out at xs now next) where
  -- and then `ys` behind them
  pub wrote_more : (ys : List ℕ) {now' : List ℕ} {next' : ℕ} →
      (next' ≡ next + length ys) × (now' ≡ sets now next ys) → Wrote out at (xs ++ ys) now' next'
  wrote_more ys {now'} {next'} (place, bytes) = record { place = behind; bytes = over w.place w.bytes }
    where
      behind : next' ≡ at + length (xs ++ ys)
      behind = let a = w.place in let b = length-append xs ys in omega arith

      over : next ≡ at + length xs → now ≡ sets out at xs → now' ≡ sets out at (xs ++ ys)
      over a b = rw (sets-append out at xs ys, ← b, ← a) bytes

-- fewer lists are not longer
join_le : (f : ℕ → List ℕ) (m n : ℕ) → m ≤ n → length (join_below m f) ≤ length (join_below n f)
join_le f m n h = rw (join_length f m, join_length f n) (sum_le_sum (λ i. length (f i)) m n h)

-- the record with second j, where p holds of j
abbrev pub record_if : ℕ → ℕ → (ℕ → Bool) → ℕ → List ℕ
record_if kind first p j = cond (p j) (kind ∷ first ∷ j ∷ []) []

-- the records of row i
abbrev row_at : ℕ → List ℕ → ℕ → List ℕ
row_at kind rows i = row_records kind i (get_or rows i 0)

-- no lists but empty ones
join_empty : (f : ℕ → List ℕ) (n : ℕ) → ((i : ℕ) → i < n → f i ≡ []) → join_below n f ≡ []
join_empty f n h = join_tail f 0 n (omega arith) (λ i m l. h i l) ∙ join_none f

-- the record of the first number of which p holds, and then those of the others
module _ (kind first t : ℕ) (p q : ℕ → Bool) (at : p t ≡ true) (least : (j : ℕ) → j < t → p j ≡ false)
    (others : (j : ℕ) → q j ≡ (p j && not (eqb j t))) where
  first_record : (n : ℕ) → t < n →
      join_below n (record_if kind first p) ≡ kind ∷ first ∷ t ∷ join_below n (record_if kind first q)
  unfolding join_below
  first_record zero l = absurd (not-suc-le-zero l)
  first_record (suc n) l =
      split l
      (λ e. rw (← e, at, none, none_left, others t, at, eq-eqb t t refl))
      (λ m. let d : eqb n t ≡ false = ne_eqb n t (λ e. omega arith) in rw (first_record n m, others n, d, and-true))
    where
      none : join_below t (record_if kind first p) ≡ []
      none = join_empty (record_if kind first p) t (λ j m. rw (least j m))

      none_left : join_below t (record_if kind first q) ≡ []
      none_left = join_empty (record_if kind first q) t (λ j m. rw (others j, least j m))

-- the records of a row: that of its lowest bit, and those of the rest
pub row_next : (kind first row : ℕ) → 0 < row → row < 2 ^ 64
    → row_records kind first row
    ≡ kind ∷ first ∷ count_trailing_zeros 64 row ∷ row_records kind first (bit_and row (row - 1))
unfolding row_records
row_next kind first row h l =
    let t = count_trailing_zeros 64 row in
    let low = lowest 64 row h l in
    let rest = bit_and row (row - 1) in
    let others = without_lowest 64 row t low in
    first_record kind first t (in_set row) (in_set rest) low.member low.least others 64 low.below

-- an empty row has none
pub row_none : (kind first : ℕ) → row_records kind first 0 ≡ []
unfolding row_records
row_none kind first = join_empty (record_if kind first (in_set 0)) 64 (λ j l. rw (in_none j))

-- no rows have none
pub rows_none : (kind : ℕ) (rows : List ℕ) → rows_records kind rows 0 ≡ []
unfolding rows_records
rows_none kind rows = join_none (row_at kind rows)

-- one row more
pub rows_more : (kind : ℕ) (rows : List ℕ) (i : ℕ) →
    rows_records kind rows (i + 1) ≡ rows_records kind rows i ++ row_records kind i (get_or rows i 0)
unfolding rows_records
rows_more kind rows i = join_more (row_at kind rows) i

-- the records before a row, and its own, are no longer than those of all n rows
pub rows_room : (kind : ℕ) (rows : List ℕ) (n i : ℕ) → i < n
    → length (rows_records kind rows i) + length (row_records kind i (get_or rows i 0))
    ≤ length (rows_records kind rows n)
unfolding rows_records
rows_room kind rows n i h =
    omega (arith, simp (rows_more kind rows i, length-append) at (join_le (row_at kind rows) (i + 1) n (omega arith)))

-- 3 bytes for each number of which p holds
row_length : (kind first : ℕ) (p : ℕ → Bool) (m : ℕ) → length (join_below m (record_if kind first p))
    ≡ 3 * count_below m p
unfolding join_below
row_length kind first p zero = rw count_none
row_length kind first p (suc m) =
    rw (length-append, row_length kind first p m, three (p m), ← add-one m, count_more p m) (omega arith)
  where
    three : (b : Bool) → length (cond b (kind ∷ first ∷ m ∷ []) []) ≡ 3 * cond b 1 0
    three true = refl
    three false = refl

-- how many bits a row has
abbrev pub members : ℕ → ℕ
members row = count_below 64 (in_set row)

pub ones_members : (row : ℕ) → row < 2 ^ 64 → (ones row ≡ members row) × (members row ≤ 64)
ones_members row h =
    (ap ones (sym (set_of_members 64 row h)) ∙ ones_set (in_set row) 64, count_le (in_set row) 64)

-- 3 bytes for each bit of the first n rows, which are at most 64 bits each
module _ (rows : List ℕ) where
  pub rows_length : (kind n : ℕ) → n ≤ length rows →
      3 * sum_by members (take n rows) ≡ length (rows_records kind rows n)
  unfolding row_records
  rows_length kind zero l = rw (rows_none kind rows)
  rows_length kind (suc n) l =
      rw (← add-one n, sum_by_more members rows n 0 l, rows_more, length-append)
      (omega (arith, rows_length kind n (omega arith), row_length kind n (in_set (get_or rows n 0)) 64))

  pub rows_bits : (n : ℕ) → n ≤ length rows → sum_by members (take n rows) ≤ 64 * n
  rows_bits zero l = omega arith
  rows_bits (suc n) l =
      rw (← add-one n, sum_by_more members rows n 0 l)
      (omega (arith, rows_bits n (omega arith), count_le (in_set (get_or rows n 0)) 64))

-- 3 bytes for each pair of which p holds
pairs_length : (kind m : ℕ) (p : ℕ → ℕ → Bool) (n : ℕ) →
    length (pairs_below kind n m p) ≡ 3 * sum_below n (λ i. count_below m (p i))
unfolding pairs_below join_below sum_below
pairs_length kind m p zero = refl
pairs_length kind m p (suc n) = rw (length-append, pairs_length kind m p n, row_length kind n (p n) m) (omega arith)

-- the conflict list's length is 3 times the number of its records
pub list_length : (b : List ℕ) → length (conflicts b) ≡ 3 * conflict_count b
unfolding conflicts conflicts_by conflict_count
list_length b = simp (length-append, pairs_length) (omega arith)

-- the number of records of a list of that length
pub list_count : (b records : List ℕ) (n : ℕ) → 3 * n ≡ length records → records ≡ conflicts b → n ≡ conflict_count b
list_count b records n size are =
    let e : 3 * n ≡ 3 * conflict_count b = size ∙ ap length are ∙ list_length b in omega arith

-- the records of a row whose bits are the numbers below m of which p holds
row_pairs : (kind first row m : ℕ) (p : ℕ → Bool) → m ≤ 64 → ((j : ℕ) → in_set row j ≡ (ltb j m && p j))
    → row_records kind first row ≡ join_below m (record_if kind first p)
unfolding row_records
row_pairs kind first row m p h e =
    join_tail (record_if kind first (in_set row)) m 64 h (λ j k l. rw (e j, le-ltb j m k))
    ∙ join_same (record_if kind first (in_set row)) (record_if kind first p) m (λ j l. rw (e j, lt-ltb j m l))

-- the records of n rows whose bits are the pairs below n and m of which p holds
rows_pairs : (kind n m : ℕ) (p : ℕ → ℕ → Bool) (rows : List ℕ) → m ≤ 64 → Rows n m p rows →
    rows_records kind rows n ≡ pairs_below kind n m p
unfolding rows_records pairs_below
rows_pairs kind n m p rows h are =
    join_same (row_at kind rows) (λ i. join_below m (record_if kind i (p i))) n
    (λ i l. row_pairs kind i _ m (p i) h (λ j. are.row i j l))

-- the records of the rows of an accepted base are its list
pub found_list : (b one two three : List ℕ) → refusal_of b ≡ 0 →
    Contradictions b one → Overlaps b two → Holders b three →
    all_records one two (record_count policies (table_of b policies)) three (record_count users (table_of b users))
    ≡ conflicts b
unfolding conflicts conflicts_by
found_list b one two three ok first second third =
    let few = few_policies b ok refl in
    let list₃ = rows_pairs 3 _ _ _ three (few_exclusions b ok refl) third in
    ap₂ ◌++◌ (rows_pairs 1 _ _ _ one few first) (ap₂ ◌++◌ (rows_pairs 2 _ _ _ two few second) list₃)

-- the list written from byte 0 on, and the bytes behind it
pub written : (b out : List ℕ) → 3 * conflict_count b ≤ length out →
    sets out 0 (conflicts b) ≡ conflicts b ++ drop (3 * conflict_count b) out
written b out l =
    rw (← list_length b) (sets-eq (conflicts b) out 0 (rw (zero-add, list_length b) l) ∙ rw zero-add)
