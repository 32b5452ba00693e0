-- Texts written one behind the other.
use Prim.Native.Nat.{ℕ, ◌+◌, ◌-◌, ◌<◌, ◌≤◌, zero-le}
use mathlib.Core.Path.{◌≡◌, refl, sym, ap, ◌∙◌}
use mathlib.Core.List.{List, ◌++◌, append_assoc}
use native.Mathlib.Nat.{add-zero, add-sub_cancel_left}
use native.Mathlib.Omega.{arith}
use lib.ListN.{length, length-append}
use lib.Seq.{sets-eq, length-sets, drop-drop}
use borrow.Rule.Slice.PartMut.{put_mid}
use Rattle.folds.specs.Below.{join_below}
use Rattle.folds.proofs.Lists.{join_none, join_more, join_length, sets-append}
use Rattle.folds.proofs.Numbers.{sum_le_sum}
use Rattle.release_list.specs.Text.{ascii, decimal, count_text, entry_text}
use Rattle.release_list.specs.Writing.{Written}

-- bytes copied into a list
pub stored : (bytes l : List ℕ) (at : ℕ) {now : List ℕ} → now ≡ bytes → at + length bytes ≤ length l →
    Written bytes l at (at + length bytes) (put_mid at (at + length bytes - at) l now)
stored bytes l at e fits =
    record {
      place = refl;
      bytes = rw (e, add-sub_cancel_left, drop-drop) (sym (sets-eq bytes l at fits ∙ append_assoc _ bytes _));
    }

module _ {xs ys l m k : List ℕ} {at next behind : ℕ} where
  -- a text behind another
  pub joined : Written xs l at next m → Written ys m next behind k → Written (xs ++ ys) l at behind k
  joined a b =
      let p = a.place in
      let q = b.place in
      record {
        place = rw length-append (omega arith);
        bytes = b.bytes ∙ rw (a.bytes, p, sets-append l at xs ys);
      }

module _ {l m k : List ℕ} {at next behind : ℕ} where
  -- a line of words and a number, by its two parts
  pub count_written : (words : List ℕ) (n : ℕ) → Written (words ++ decimal n) l at next m →
      Written (ascii "\n") m next behind k → Written (count_text words n) l at behind k
  unfolding count_text
  count_written words n a b = rw (← append_assoc words (decimal n) (ascii "\n")) (joined a b)

  -- an entry, by its two parts
  pub entry_written : (user role : ℕ) → Written (ascii " " ++ decimal user) l at next m →
      Written (ascii "/" ++ decimal role) m next behind k → Written (entry_text user role) l at behind k
  unfolding entry_text
  entry_written user role a b = joined a b

-- what a text is written into keeps its length
pub same_size : {xs l m : List ℕ} {at next : ℕ} → Written xs l at next m → length m ≡ length l
same_size {xs} {l} {at = at} w = ap length w.bytes ∙ length-sets l at xs

-- where n bytes more than a text's have room, they have it behind the text
pub room_behind : (n : ℕ) {xs l m : List ℕ} {at next : ℕ} → Written xs l at next m →
    at + (length xs + n) ≤ length l → next + n ≤ length m
room_behind n w fits = omega (arith, fits, w.place, same_size w)

module _ (f : ℕ → List ℕ) where
  -- no text yet
  pub none_written : (l : List ℕ) (at : ℕ) → Written (join_below 0 f) l at at l
  none_written l at = rw (join_none f) (record { place = sym (add-zero at); bytes = refl })

  -- one text more
  pub more_written : (n : ℕ) {l m k : List ℕ} {at next behind : ℕ} →
      Written (join_below n f) l at next m → Written (f n) m next behind k →
      Written (join_below (n + 1) f) l at behind k
  more_written n a b = rw (join_more f n) (joined a b)

  -- the texts before one, and its own, are no longer than all
  pub room_more : (i n : ℕ) → i < n → length (join_below i f) + length (f i) ≤ length (join_below n f)
  room_more i n h =
      rw (← length-append, ← join_more f i, join_length f (i + 1), join_length f n)
      (sum_le_sum (λ j. length (f j)) (i + 1) n (omega arith))

-- of the n texts of f the first i are written, from `at` on
pub record Begun (f : ℕ → List ℕ) (n : ℕ) (l : List ℕ) (at : ℕ) (m : List ℕ) (next i : ℕ) : Type 0 where
  pub within : i ≤ n
  pub written : Written (join_below i f) l at next m

pub begun_none : (f : ℕ → List ℕ) (n : ℕ) (l : List ℕ) (at : ℕ) → Begun f n l at l at 0
begun_none f n l at = record { within = zero-le; written = none_written f l at }

module _ {f : ℕ → List ℕ} {n : ℕ} {l m : List ℕ} {at next i : ℕ} (b : Begun f n l at m next i) where
  -- where all have room, so has the next one
  pub next_fits : i < n → at + length (join_below n f) ≤ length l → next + length (f i) ≤ length m
  next_fits h fits = room_behind _ b.written (omega (arith, fits, room_more f i n h))

  pub begun_more : i < n → {k : List ℕ} {behind : ℕ} → Written (f i) m next behind k → Begun f n l at k behind (i + 1)
  begun_more h w = record { within = omega arith; written = more_written f i b.written w }

  pub begun_all : n ≤ i → Written (join_below n f) l at next m
  begun_all h = let k = b.within in let e : i ≡ n = omega arith in rw e at b.written
