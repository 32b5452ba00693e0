-- `list` meets its contract: the records of the rows are the conflict list, so their number is the list's, and what is
-- written is the list.
use Rattle.std.proofs.Common.{ℕ, ◌≡◌, ◌<◌, ◌≤◌, ◌+◌, ◌*◌, List, ◌++◌, length, refl, sym, ap, ◌∙◌, arith}
use Rattle.std.proofs.Common.{append_assoc, length-append}
use borrow.Author.Tests.{ne_eqb, lt-ltb, le-ltb}
use lib.Seq.{sets}
use Rattle.reader.specs.Tables.{users, policies, table_of, record_count}
use Rattle.reader.specs.Rules.{refusal_of}
use Rattle.reader.specs.declared.Answer.{Answer}
use Rattle.reader.proofs.Results.{refusal_pos, carried_on}
use Rattle.conflicts.specs.Conflicts.{conflicts, conflict_count, too_short, conflict_answer, conflict_bytes}
use Rattle.conflicts.specs.declared.rows.Conflicts.{Conflicts}
use Rattle.conflicts.specs.Kinds.{kind_number}
use Rattle.conflicts.specs.Records.{records_of}
use Rattle.conflicts.specs.Rows.{Contradictions, Overlaps, Holders}
use Rattle.conflicts.proofs.Lists.{found_list, list_count, written, wrote_none, wrote_more}
use Rattle.conflicts.proofs.list.Goals as goal

-- the contract, of plain values
abbrev answer : ℕ → ℕ → Answer
answer refusal count = record { refusal = refusal; count = count }

module _ (b out : List ℕ) where
  abbrev Listed : Answer → List ℕ → Type 0
  Listed r now = (r ≡ conflict_answer b (length out)) × (now ≡ conflict_bytes b out)

  refused : {r : ℕ} → r ≡ refusal_of b → (r ≡ 0 → ⊥) → Listed (answer r 0) out
  unfolding conflict_answer conflict_bytes
  refused e bad = rw (← e, ne_eqb _ _ bad) (refl, refl)

  no_room : {n : ℕ} → refusal_of b ≡ 0 → n ≡ conflict_count b → length out < 3 * n → Listed (answer 18 n) out
  unfolding conflict_answer conflict_bytes too_short
  no_room ok count short = rw (ok, ← count, lt-ltb _ _ short) (refl, refl)

  room : {n : ℕ} {records now : List ℕ} → refusal_of b ≡ 0 → n ≡ conflict_count b → 3 * n ≤ length out →
      records ≡ conflicts b → now ≡ sets out 0 records → Listed (answer 0 n) now
  unfolding conflict_answer conflict_bytes too_short
  room ok count enough are wrote =
      let list = ap (λ (x : List ℕ). sets out 0 x) are ∙ written b out (rw (← count) enough) in
      rw (ok, ← count, le-ltb _ _ enough) (refl, wrote ∙ rw count list)

-- the records of the three kinds, of the base as it was accepted, are the list, and as many as it has
listed : (b : List ℕ) {a : List ℕ} (one two three : Conflicts) (l m n : ℕ) → a ≡ b → refusal_of b ≡ 0 →
    (kind_number one.kind ≡ 1) × (one.firsts ≡ record_count policies (table_of a policies))
    × Contradictions a one.rows →
    (kind_number two.kind ≡ 2) × (two.firsts ≡ record_count policies (table_of a policies)) × Overlaps a two.rows →
    (kind_number three.kind ≡ 3) × (three.firsts ≡ record_count users (table_of a users)) × Holders a three.rows →
    (3 * l ≡ length (records_of one)) × (3 * m ≡ length (records_of two)) × (3 * n ≡ length (records_of three)) →
    (records_of one ++ (records_of two ++ records_of three) ≡ conflicts b) × (l + m + n ≡ conflict_count b)
listed b one two three l m n same ok (i, o, first) (j, p, second) (k, q, third) (x, y, z) =
    let x_y_z = records_of one ++ (records_of two ++ records_of three) in
    let are : x_y_z ≡ conflicts b =
    rw (i, j, k, o, p, q, same) (found_list b _ _ _ ok (rw same at first) (rw same at second) (rw same at third)) in
    let behind = length-append (records_of two) (records_of three) in
    let size : 3 * (l + m + n) ≡ length x_y_z =
    sym (length-append (records_of one) (records_of two ++ records_of three) ∙ omega (arith, x, y, z, behind)) in
    (are, list_count b x_y_z (l + m + n) size are)

-- one kind behind the other
all_written : (out x y z : List ℕ) {first second third : List ℕ} {l m n : ℕ} →
    (l ≡ 0 + length x) × (first ≡ sets out 0 x) → (m ≡ l + length y) × (second ≡ sets first l y) →
    (n ≡ m + length z) × (third ≡ sets second m z) → third ≡ sets out 0 (x ++ (y ++ z))
all_written out x y z a b c =
    let all = wrote_more (wrote_more (wrote_more (wrote_none out 0) x a) y b) z c in
    all.bytes ∙ ap (λ (r : List ℕ). sets out 0 r) (append_assoc x y z)

pub returns-in_err-base : goal.returns-in_err-base
returns-in_err-base c =
    let (answer_is, kept) = refused c.args.base.now c.args.out.now c.in_err-base.ensures.number (refusal_pos _) in
    (carried_on _ _ c.from_residual.ensures.1 ∙ answer_is, kept)

pub returns-then-out-count : goal.returns-then-out-count
returns-then-out-count c =
    let ok = sym c.in_ok-base.ensures.number in
    let one = c.contradictions-one.ensures in
    let two = c.overlaps-two.ensures in
    let three = c.holders-three.ensures in
    let (_, count) =
    listed c.args.base.now c.contradictions-one.result c.overlaps-two.result c.holders-three.result _ _ _
    c.in_ok-base.ensures.same ok
    (one.kind, one.firsts, one.rows) (two.kind, two.firsts, two.rows) (three.kind, three.firsts, three.rows)
    (c.count.ensures.0, c.count-2.ensures.0, c.count-3.ensures.0) in
    no_room c.args.base.now c.args.out.now ok count c.if-out-count.true

pub returns : goal.returns
returns c =
    let ok = sym c.in_ok-base.ensures.number in
    let one = c.contradictions-one.ensures in
    let two = c.overlaps-two.ensures in
    let three = c.holders-three.ensures in
    let (are, count) =
    listed c.args.base.now c.contradictions-one.result c.overlaps-two.result c.holders-three.result _ _ _
    c.in_ok-base.ensures.same ok
    (one.kind, one.firsts, one.rows) (two.kind, two.firsts, two.rows) (three.kind, three.firsts, three.rows)
    (c.count.ensures.0, c.count-2.ensures.0, c.count-3.ensures.0) in
    room c.args.base.now c.args.out.now ok count c.if-out-count.false are
    (all_written _ _ _ _ c.write-behind.ensures c.write-last.ensures c.write.ensures)
