-- What the parts of the masks come to.
use Prim.Native.Nat.{ℕ, ◌+◌, ◌-◌, ◌*◌, ◌^◌, ◌<◌, ◌≤◌}
use mathlib.Core.Path.{◌≡◌, ◌∙◌}
use mathlib.Core.List.{List, ◌++◌}
use native.Mathlib.Nat.{lt_of_lt_of_le, mul-le-mul_right}
use native.Mathlib.Omega.{arith}
use lib.Bits.{bit_or, or_lt}
use lib.Dec.{lit<}
use lib.ListN.{length, get_or, take, drop}
use lib.Pow.{pow_mono}
use Rattle.reader.specs.Tables.{clauses, role_count, permission_count, table_of}
use Rattle.reader.specs.Rules.{refusal_of}
use Rattle.reader.proofs.Frame.{roles_range, table_length, size_le}
use Rattle.reader.proofs.Accepted.{accepted}
use Rattle.decision.specs.Conditions.{role_num}
use Rattle.masks.specs.declared.Placed.{Placed}
use Rattle.masks.specs.declared.Weighed.{Weighed}
use Rattle.masks.specs.declared.asked.Asked.{Asked}
use Rattle.masks.specs.Clauses.{Checked, NarrowedAll}
use Rattle.masks.specs.Sets.{SetsFor}
use Rattle.masks.specs.Rows.{Joined, Rows}
use Rattle.masks.specs.Masks.{Ready, Masks}
use Rattle.std.proofs.lemmas.List.{length-take}
use Rattle.folds.proofs.Parts.{before_end, length_end}
use Rattle.masks.proofs.Narrowing.{narrowed_same}
use Rattle.masks.proofs.RowMasks.{joined_front}
use Rattle.masks.proofs.Telling.{kept, tells}

module _ {k : List ℕ} {own : ℕ} {weighed : Weighed} {placed : Placed} {counts : List ℕ}
    (ready : Ready k own weighed placed counts) where
  -- the roles of a set and of the entries placed are counted
  pub set_counted : (v : ℕ) → v < 2 ^ weighed.end
      → get_or counts (bit_or placed.roles v) 0 ≡ role_num (bit_or placed.roles v)
  set_counted v l =
      let low : v < 2 ^ ready.roles = lt_of_lt_of_le l (pow_mono ready.end_le) in
      ready.counted.each (bit_or placed.roles v) (or_lt ready.roles placed.roles v ready.placed_roles low)

  abbrev top : ℕ
  top = placed.sum + (6 - placed.count) * weighed.heavy

  pub masks_made : (sums₀ : List ℕ) {asked : Asked} {part w sets : List ℕ} {half reached : ℕ} {rows : List ℕ}
      → length sums₀ ≡ 256 → length sets ≡ 256 → length part ≡ length (take (top + 1) sums₀)
      → NarrowedAll k own 0 (length (take (top + 1) sums₀)) asked part
      → SetsFor own asked.numbers asked.roles w placed.roles weighed.end sets
      → (half ≡ 2 ^ weighed.end) × (half ≤ 256) → Joined 0 (length (take half sets)) (take half sets) reached
      → Rows asked.entries placed.count placed.sum weighed.light weighed.heavy reached
      (part ++ drop (top + 1) sums₀) rows
      → Masks k own w weighed placed (part ++ drop (top + 1) sums₀) sets rows
  masks_made sums₀ {part = part} {w} {sets} all held size narrowed marked e joined made =
      let taken = length-take (top + 1) sums₀ in
      let most = ready.top_le in
      let long : length part ≡ top + 1 = omega arith in
      let few = e.1 in
      let first : Joined 0 (2 ^ weighed.end) sets _ = rw (e.0) at (joined_front sets (omega arith) joined) in
      let within = narrowed_same (rw (← size, long) at narrowed)
      (λ x l. before_end sums₀ part (top + 1) x long l) in
      record {
        sums_size = length_end sums₀ part (top + 1) long (omega arith) ∙ all;
        sets_size = held;
        tells = λ p own_is n s v some few low high below weigh.
            let most : n * weighed.heavy ≤ (6 - placed.count) * weighed.heavy =
            mul-le-mul_right weighed.heavy (omega arith) in
            tells within marked ready.table ready.own_lt (made.each n few) first some few low
            (omega arith)
            (omega arith) below weigh p own_is;
        kept = kept within marked;
        none = λ n h. (made.each n (omega arith)).none h;
        past = made.past;
      }

-- the table K of a base that passes the check
pub checked : (b : List ℕ) → refusal_of b ≡ 0 → Checked (table_of b clauses)
checked b ok =
    let a = accepted b ok in
    record {
      roles = role_count b;
      permissions = permission_count b;
      roles_le = (roles_range b a.frame).1;
      short = rw (table_length b a.frame 3 (lit< tt)) (size_le b a.frame 3 (lit< tt));
      fine = a.clauses;
    }
