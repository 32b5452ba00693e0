-- One byte of a table replaced: the trailer, the other tables and the table's other bytes stay.
use Prim.Native.Nat.{ℕ, suc, ◌+◌, ◌-◌, ◌<◌, ◌≤◌}
use mathlib.Core.List.{List}
use mathlib.Core.Path.{◌≡◌, ap}
use mathlib.Core.Logic.{⊎_elim}
use native.Mathlib.Omega.{arith}
use borrow.Author.Tests.{ltb-true, ltb-false}
use lib.Dec.{ltb}
use lib.ListN.{get_or, take, drop, set, length-set}
use lib.Seq.{get_or-set_other, take-set-le, take-set-lt, drop-set-lt, drop-set-add}
use Rattle.folds.proofs.Bools.{met_or_not}
use Rattle.folds.proofs.Tests.{any_same}
use Rattle.folds.proofs.Numbers.{sum_same, sum_step, sum_le_sum}
use Rattle.reader.specs.Bytes.{word16}
use Rattle.reader.specs.Tables.{trailer, table_offset, table_count, table_size, table_start, role_count}
use Rattle.reader.specs.Tables.{part_of, table_of, letter_bad, reserved_byte_bad, table_bad, length_bad, letters_bad}
use Rattle.reader.specs.Tables.{roles_bad, reserved_bad, tables_bad, trailer_bad, frame_refusal}
use Rattle.reader.proofs.Frame.{offset_start, table_end, table_is}

-- a byte before a part or behind it isn't the part's
part_before : (b : List ℕ) (k x a n : ℕ) → k < a → part_of (set b k x) a n ≡ part_of b a n
part_before b k x a n l = ap (take n) (drop-set-lt a b k x l)

part_behind : (b : List ℕ) (k x a n : ℕ) → a + n ≤ k → part_of (set b k x) a n ≡ part_of b a n
part_behind b k x a n l =
    let e : k ≡ a + (k - a) = omega arith in
    rw (e, drop-set-add) (take-set-le n (drop a b) (k - a) x (omega arith))

-- one in it is
part_within : (b : List ℕ) (k x a n : ℕ) → k < n → part_of (set b (a + k) x) a n ≡ set (part_of b a n) k x
part_within b k x a n l = rw drop-set-add (take-set-lt n (drop a b) k x l)

-- table u lies before table t
in_order : (b : List ℕ) → frame_refusal b ≡ 0 → (u t : ℕ) → u < t → t < 7 →
    table_offset b u + table_size b u ≤ table_offset b t
unfolding table_start
in_order b ok u t l there =
    rw (offset_start b ok u (omega arith), offset_start b ok t there, ← sum_step (table_size b) u)
    (sum_le_sum (table_size b) (suc u) t l)

module _ (b : List ℕ) (ok : frame_refusal b ≡ 0) (t n x : ℕ) (there : t < 7) (within : n < table_size b t) where
  abbrev place : ℕ
  place = table_offset b t + n

  -- the base with x as byte n of table t
  abbrev c : List ℕ
  c = set b place x

  same_trailer : trailer c ≡ trailer b
  same_trailer = rw length-set

  -- the trailer's bytes stay
  stays : (k : ℕ) → trailer b ≤ k → get_or c k 0 ≡ get_or b k 0
  stays k l = let e = table_end b ok t there in get_or-set_other b place k x 0 (λ q. omega arith)

  stays_word : (k : ℕ) → trailer b ≤ k → word16 c k ≡ word16 b k
  unfolding word16
  stays_word k l = rw (stays k l, stays (k + 1) (omega arith))

  -- R stays
  pub same_roles : role_count c ≡ role_count b
  unfolding role_count
  same_roles = rw same_trailer (stays _ (omega arith))

  same_offset : (u : ℕ) → table_offset c u ≡ table_offset b u
  unfolding table_offset
  same_offset u = rw same_trailer (stays_word _ (omega arith))

  same_count : (u : ℕ) → table_count c u ≡ table_count b u
  unfolding table_count
  same_count u = rw same_trailer (stays_word _ (omega arith))

  same_start : (u : ℕ) → table_start c u ≡ table_start b u
  unfolding table_start
  same_start u = sum_same (table_size c) (table_size b) u (λ k l. rw same_count)

  same_letters : letters_bad c ≡ letters_bad b
  unfolding letters_bad
  same_letters =
      any_same (letter_bad c) (letter_bad b) 4
      (λ k l. rw (same_trailer, stays (trailer b + 32 + k) (omega arith)))

  same_reserved : reserved_bad c ≡ reserved_bad b
  unfolding reserved_bad
  same_reserved =
      any_same (reserved_byte_bad c) (reserved_byte_bad b) 3
      (λ k l. rw (same_trailer, stays (trailer b + 29 + k) (omega arith)))

  same_tables : tables_bad c ≡ tables_bad b
  unfolding tables_bad
  same_tables =
      let each = any_same (table_bad c) (table_bad b) 7 (λ k l. rw (same_count, same_offset, same_start)) in
      rw (each, same_start, same_trailer)

  -- so the base still has its tables
  pub same_frame : frame_refusal c ≡ 0
  unfolding frame_refusal length_bad trailer_bad roles_bad
  same_frame = rw (length-set, same_letters, same_roles, same_reserved, same_tables) ok

  -- the part of another table stays
  part_stays : (u : ℕ) → u < 7 → (u ≡ t → ⊥) →
      part_of c (table_offset b u) (table_size b u) ≡ part_of b (table_offset b u) (table_size b u)
  part_stays u low other =
      ⊎_elim
      (λ e.
      let o = in_order b ok u t (ltb-true _ _ e) there in
      part_behind b place x (table_offset b u) (table_size b u) (omega arith))
      (λ e.
      let l : t ≤ u = ltb-false _ _ e in
      let o = in_order b ok t u (omega arith) low in
      part_before b place x (table_offset b u) (table_size b u) (omega arith))
      (met_or_not (ltb u t))

  -- and so does that table
  pub others_stay : (u : ℕ) → u < 7 → (u ≡ t → ⊥) → table_of c u ≡ table_of b u
  others_stay u low other =
      rw (table_is c same_frame u low, table_is b ok u low, same_offset, same_count) (part_stays u low other)

  -- the table itself has x as its byte n
  pub table_replaced : table_of c t ≡ set (table_of b t) n x
  table_replaced =
      rw (table_is c same_frame t there, table_is b ok t there, same_offset, same_count)
      (part_within b n x (table_offset b t) (table_size b t) within)
