-- The trailer's offset and count of table t give the part that `table_of` names; `Frame` says that it lies in the base.
use Rattle.std.proofs.Common.{ℕ, ◌+◌, ◌-◌, ◌*◌, ◌<◌, ◌≤◌, List, ◌≡◌, ◌∙◌, ap, length, arith}
use native.Mathlib.Nat.{add-sub_cancel_left}
use Rattle.reader.specs.Tables.{width, table_offset, table_count, frame_refusal, part_of, table_of}
use Rattle.reader.proofs.Frame.{table_end, table_is}
use Rattle.reader.proofs.trailer.Frame.part_at.Goals as goal
use Rattle.reader.proofs.trailer.Frame.part_at.Goals.{After-room_of}

-- what is read of table t: where it starts, how many records it has, and their width
record Read (b : List ℕ) (t a n w : ℕ) : Type 0 where
  ok : frame_refusal b ≡ 0
  there : t < 7
  a_is : a ≡ table_offset b t
  n_is : n ≡ table_count b t
  w_is : w ≡ width t

module _ {b : List ℕ} {t a n w : ℕ} (r : Read b t a n w) where
  inside : a + n * w ≤ length b
  inside = let e = table_end b r.ok t r.there in rw (r.a_is, r.n_is, r.w_is) (omega arith)

  is_table : part_of b a (a + n * w - a) ≡ table_of b t
  is_table = rw (table_is b r.ok t r.there, add-sub_cancel_left, r.a_is, r.n_is, r.w_is)

-- after the two calls, that is read
read : (c : After-room_of) →
    Read c.self.inside.trailer c.args.t c.place-place.result.offset c.place-place.result.count c.room_of.result.width
read c =
    record {
      ok = c.self.invariant;
      there = c.requires;
      a_is = c.place-place.ensures.offset.0;
      n_is = c.place-place.ensures.count.0;
      w_is = c.room_of.ensures.0;
    }

pub slice_bounds-result-end : goal.slice_bounds-result-end
slice_bounds-result-end c = rw c.trailer.view_is (inside (read (goal.at.slice_bounds-result-end c).After-room_of))

pub returns-clause-table : goal.returns-clause-table
returns-clause-table c =
    let a = c.place-place.result.offset in
    let n = c.place-place.result.count * c.room_of.result.width in
    ap (λ (b : List ℕ). part_of b a (a + n - a)) c.trailer.view_is
    ∙ is_table (read (goal.at.returns-clause-table c).After-room_of)
    ∙ ap (λ (b : List ℕ). table_of b c.args.t) c.self.view_is
