-- What the trailer says of the tables: their lengths and where they lie.
use Prim.Native.Nat.{ℕ, suc, ◌+◌, ◌*◌, ◌<◌, ◌≤◌}
use mathlib.Core.Bool.{false}
use mathlib.Core.Path.{◌≡◌, refl}
use mathlib.Core.List.{List}
use native.Mathlib.Omega.{arith}
use native.Mathlib.Nat.{mul-le-mul, mul-div_cancel, min-eq_left, le_trans}
use borrow.Author.Tests.{leb-true, ltb-true, ltb-false, eqb-true, not-false, lt-ltb, eq-eqb}
use lib.Dec.{lit<, leb, ltb}
use lib.ListN.{length, length-take, length-drop}
use Rattle.std.proofs.lemmas.Bool.Decides.{nat_tests}
use Rattle.folds.specs.Below.{all_below, any_below, sum_below}
use Rattle.folds.proofs.Bools.{or_left, or_right}
use Rattle.folds.proofs.Tests.{all_at, any_at}
use Rattle.folds.proofs.Numbers.{sum_step, sum_le_sum}
use Rattle.reader.specs.Tables.{width, limit, trailer, table_offset, table_count, table_size, table_start, role_count}
use Rattle.reader.specs.Tables.{table_bad, tables_bad, roles_bad, reserved_bad, trailer_bad, length_bad, letters_bad}
use Rattle.reader.specs.Tables.{frame_refusal, part_of, table_of, record_count, user_count, permission_count}

pub width_le : (t : ℕ) → t < 7 → width t ≤ 16
unfolding all_below
width_le t h = leb-true _ _ (all_at (λ k. leb (width k) 16) 7 refl t h)

width_pos : (t : ℕ) → t < 7 → 0 < width t
unfolding all_below
width_pos t h = ltb-true _ _ (all_at (λ k. ltb 0 (width k)) 7 refl t h)

pub limit_le : (t : ℕ) → t < 7 → limit t ≤ 64
unfolding all_below
limit_le t h = leb-true _ _ (all_at (λ k. leb (limit k) 64) 7 refl t h)

-- records of table t within its limit have at most 1,024 bytes
pub records_size : (t n : ℕ) → t < 7 → n ≤ limit t → n * width t ≤ 1024
records_size t n there few = mul-le-mul {n₂ = 64} {m₂ = 16} (le_trans few (limit_le t there)) (width_le t there)

-- the longest base, of full tables, has 2,460 bytes
pub longest : sum_below 7 (λ t. limit t * width t) + 36 ≡ 2460
unfolding sum_below
longest = refl

-- a base that passes refusal 1 has a trailer
pub long_enough : (b : List ℕ) → length_bad b ≡ false → 36 ≤ length b
unfolding length_bad
long_enough b h = ltb-false _ _ (or_left _ _ h)

-- a base that has its tables: none of 1 to 3 applies
pub record Framed (b : List ℕ) : Type 0 where
  pub long : 36 ≤ length b
  pub short : length b ≤ 2460
  pub letters : letters_bad b ≡ false
  pub roles : roles_bad b ≡ false
  pub reserved : reserved_bad b ≡ false
  pub tables : tables_bad b ≡ false

-- each of the three tests fails
none_of : (b : List ℕ) → frame_refusal b ≡ 0 →
    (length_bad b ≡ false) × (letters_bad b ≡ false) × (trailer_bad b ≡ false)
unfolding frame_refusal
none_of b h = (grind (arith, nat_tests), grind (arith, nat_tests), grind (arith, nat_tests))

pub framed : (b : List ℕ) → frame_refusal b ≡ 0 → Framed b
unfolding length_bad trailer_bad
framed b h =
    let (size, marked, rest) = none_of b h in
    record {
      long = long_enough b size;
      short = ltb-false _ _ (or_right (ltb (length b) 36) _ size);
      letters = marked;
      roles = or_left _ _ rest;
      reserved = or_left _ _ (or_right (roles_bad b) _ rest);
      tables = or_right (reserved_bad b) _ (or_right (roles_bad b) _ rest);
    }

module _ (b : List ℕ) (ok : frame_refusal b ≡ 0) where
  -- R is 1 to 8
  pub roles_range : (1 ≤ role_count b) × (role_count b ≤ 8)
  unfolding roles_bad
  roles_range =
      let f = framed b ok in
      (ltb-false _ _ (or_left _ _ f.roles), ltb-false _ _ (or_right (ltb (role_count b) 1) _ f.roles))

  tables_end : table_start b 7 ≡ trailer b
  unfolding tables_bad
  tables_end = eqb-true _ _ (not-false _ (or_right (any_below 7 (table_bad b)) _ (framed b ok).tables))

module _ (b : List ℕ) (ok : frame_refusal b ≡ 0) (t : ℕ) (there : t < 7) where
  table_fine : table_bad b t ≡ false
  unfolding tables_bad
  table_fine = any_at (table_bad b) 7 (or_left (any_below 7 (table_bad b)) _ (framed b ok).tables) t there

  pub count_limit : table_count b t ≤ limit t
  count_limit = ltb-false _ _ (or_left _ _ table_fine)

  pub size_le : table_size b t ≤ 1024
  size_le = records_size t (table_count b t) there count_limit

  pub offset_start : table_offset b t ≡ table_start b t
  offset_start = eqb-true _ _ (not-false _ (or_right (ltb (limit t) (table_count b t)) _ table_fine))

  -- table t ends where the trailer starts, or before
  pub table_end : table_offset b t + table_size b t ≤ trailer b
  unfolding table_start
  table_end =
      rw (offset_start, ← tables_end b ok, ← sum_step (table_size b) t) (sum_le_sum (table_size b) (suc t) 7 there)

  -- it is the part of the base that the trailer names
  pub table_is : table_of b t ≡ part_of b (table_offset b t) (table_size b t)
  unfolding table_of
  table_is = rw (eq-eqb _ _ ok, lt-ltb _ _ there)

  pub table_length : length (table_of b t) ≡ table_size b t
  table_length =
      let e = table_end in
      rw (table_is, length-take, length-drop) (min-eq_left (omega arith))

  -- the number of records in it is the trailer's count
  pub record_count_lem : record_count t (table_of b t) ≡ table_count b t
  record_count_lem = rw table_length (mul-div_cancel (table_count b t) (width_pos t there))

-- there are at most 24 users
pub users_le : (b : List ℕ) → frame_refusal b ≡ 0 → user_count b ≤ 24
users_le b ok = rw (record_count_lem b ok 1 (lit< tt)) (count_limit b ok 1 (lit< tt))

-- there are at most 16 permissions
pub permissions_le : (b : List ℕ) → frame_refusal b ≡ 0 → permission_count b ≤ 16
permissions_le b ok = rw (record_count_lem b ok 2 (lit< tt)) (count_limit b ok 2 (lit< tt))
