-- From the last entry to the first, each is the one by which the end came.
use Rattle.std.proofs.Common.{ℕ, ◌+◌, ◌-◌, ◌*◌, ◌/◌, ◌%◌, ◌≤◌, ◌<◌, List, ◌++◌, ◌≡◌, sym, ap, ◌∙◌, get_or, arith}
use lib.ListN.{set, length-set, replicate}
use Rattle.folds.proofs.Lists.{drop-replicate}
use Rattle.multisets.specs.Standing.{bytes_back}
use Rattle.multisets.specs.Ends.{back_of}
use Rattle.multisets.proofs.Bytes.{whole, turn_whole, turn_way, whole_is}
use Rattle.multisets.proofs.back.group.Invariants.{Turn}
use Rattle.multisets.proofs.back.group.Goals as goal

all_is : (ends from : List ℕ) (n x : ℕ) → n ≤ 6 →
    whole ends from (replicate 12 255) n x ≡ bytes_back (back_of ends from n x) ++ replicate (12 - 2 * n) 255
all_is ends from n x few =
    whole_is ends from (replicate 12 255) n x (omega arith)
    ∙ ap (λ (k : List ℕ). bytes_back (back_of ends from n x) ++ k) (drop-replicate 255 (2 * n) 12)

-- a turn, by the bytes that it writes
turn_more : {ends from : List ℕ} {n x : ℕ} {out : List ℕ} {at left : ℕ} → Turn ends from n x out at left → 0 < left →
    Turn ends from n x
    (set (set out (2 * (left - 1)) (get_or ends at 0 - 1)) (2 * (left - 1) + 1) (get_or from at 0 % 8))
    (get_or from at 0 / 8) (left - 1)
turn_more {ends} {from} {n} {x} {out} {at} {left} t some = record {
  room = t.room;
  few = let a = t.few in omega arith;
  size = length-set (set out _ _) _ _ ∙ length-set out _ _ ∙ t.size;
  way = (turn_way ends from out left at some t.room t.way).2;
  most = t.most;
  ends_room = t.ends_room;
  from_room = t.from_room;
  same = turn_whole ends from out left at some ∙ t.same;
}

turn_end : {ends from : List ℕ} {n x : ℕ} {out : List ℕ} {at left : ℕ} → Turn ends from n x out at left → left ≤ 0 →
    n ≤ 6 → out ≡ bytes_back (back_of ends from n x) ++ replicate (12 - 2 * n) 255
turn_end {ends} {from} {n} {x} {out} {at} {left} t l few =
    let e : left ≡ 0 = omega arith in
    let none = ap (λ (k : ℕ). whole ends from out k at) e in
    sym none ∙ t.same ∙ all_is ends from n x few

pub loop-left-preserved : goal.loop-left-preserved
loop-left-preserved c = turn_more c.loop-left.invariant c.loop-left-test.true

pub returns : goal.returns
returns c = turn_end c.loop-left.invariant c.loop-left-test.false c.requires.0
