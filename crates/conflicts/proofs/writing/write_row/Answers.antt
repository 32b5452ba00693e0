-- `write_row` meets its contract: each turn writes the record of the lowest bit left, and what is still to be written
-- into what stands is the whole.
use Rattle.std.proofs.Common.{ℕ, ◌≡◌, ◌+◌, ◌-◌, ◌<◌, ◌≤◌, List, ◌∷◌, [], length, refl, sym, ap, arith, ◌∙◌}
use Rattle.std.proofs.Common.{bit_and, pos_of_ne-zero}
use lib.Bits.{and_le_r}
use lib.Count.{count_trailing_zeros}
use lib.Seq.{sets, length-sets}
use Rattle.folds.proofs.Lists.{sets-append}
use Rattle.conflicts.specs.Rows.{row_records}
use Rattle.conflicts.proofs.Lists.{put_record, row_next, row_none}
use Rattle.conflicts.proofs.writing.write_row.Invariants.{Turn}
use Rattle.conflicts.proofs.writing.write_row.Goals as goal

-- one turn, of plain values: the record of the lowest bit, and the others
module _ {out₀ : List ℕ} {at kind first row : ℕ} {out : List ℕ} {next rest : ℕ}
    (turn : Turn out₀ at kind first row out next rest) where
  module _ (some : 0 < rest) where
    abbrev lowest : ℕ
    lowest = count_trailing_zeros 64 rest

    abbrev others : ℕ
    others = bit_and rest (rest - 1)

    fewer : others < rest
    fewer = let l = and_le_r rest (rest - 1) in omega arith

    split : row_records kind first rest ≡ kind ∷ first ∷ lowest ∷ row_records kind first others
    split = row_next kind first rest some turn.small

    room : at + length (row_records kind first row) ≤ length out₀ → next + 3 ≤ length out
    room enough = let more = ap length split in omega (arith, turn.place, turn.size)

    again : {out' : List ℕ} → out' ≡ sets out next (kind ∷ first ∷ lowest ∷ []) →
        Turn out₀ at kind first row out' (next + 3) others
    again is =
        let more = ap length split in
        let left = row_records kind first others in
        record {
          small = omega (arith, fewer, turn.small);
          place = omega (arith, turn.place);
          size = ap length is ∙ length-sets out next (kind ∷ first ∷ lowest ∷ []) ∙ turn.size;
          bytes = ap (λ (x : List ℕ). sets x (next + 3) left) is
              ∙ sym (sets-append out next (kind ∷ first ∷ lowest ∷ []) left)
              ∙ ap (λ (x : List ℕ). sets out next x) (sym split)
              ∙ turn.bytes;
        }

  finished : rest ≡ 0 →
      (next ≡ at + length (row_records kind first row)) × (out ≡ sets out₀ at (row_records kind first row))
  finished none =
      let empty : row_records kind first rest ≡ [] = rw none (row_none kind first) in
      let left = ap length empty in
      (omega (arith, turn.place), ap (λ (x : List ℕ). sets out next x) (sym empty) ∙ turn.bytes)

pub slice_bounds-copy_from_slice-end : goal.slice_bounds-copy_from_slice-end
slice_bounds-copy_from_slice-end c = room c.loop-rest.invariant (pos_of_ne-zero c.loop-rest-test.true) c.requires

pub loop-rest-preserved : goal.loop-rest-preserved
loop-rest-preserved c =
    let turn = c.loop-rest.invariant in
    let some = pos_of_ne-zero c.loop-rest-test.true in
    let fits = room turn some c.requires in
    again turn some (put_record c.loop-rest.out _ c.loop-rest.next 3 _ refl fits c.copy_from_slice.ensures.after)

pub returns : goal.returns
returns c = finished c.loop-rest.invariant c.loop-rest-test.false
