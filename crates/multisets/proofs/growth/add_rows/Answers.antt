-- The empty multiset's row is the roles themselves; other rows are made block by block, for each largest role.
use Rattle.std.proofs.Common.{ℕ, suc, ◌+◌, ◌-◌, ◌≤◌, ◌<◌, List, [], ◌∷◌, ◌≡◌, refl, sym, ◌∙◌, length, get_or}
use Rattle.std.proofs.Common.{eqb, arith, rules}
use native.Mathlib.Nat.{add-zero, le_refl}
use borrow.Author.Tests.{eqb-true}
use Rattle.folds.specs.Below.{all_below}
use Rattle.folds.proofs.Tests.{all_at}
use Rattle.multisets.specs.Ranks.{starts, first}
use Rattle.multisets.specs.Values.{Written}
use Rattle.multisets.specs.Levels.{Rows}
use Rattle.multisets.proofs.Blocks.{starts_none, starts_empty}
use Rattle.multisets.proofs.Places.{first_0, first_1, first_more}
use Rattle.multisets.proofs.Rows.{row_none, rows_more, rows_past, row_room}
use Rattle.multisets.proofs.growth.add_rows.Goals as goal

-- the empty multiset with role q more has rank q
abbrev row : List ℕ
row = 0 ∷ 1 ∷ 2 ∷ 3 ∷ 4 ∷ 5 ∷ 6 ∷ 7 ∷ []

row_is : (q : ℕ) → q < 8 → get_or row q 0 ≡ q
unfolding all_below
row_is q h = eqb-true _ _ (all_at (λ k. eqb (get_or row k 0) k) 8 refl q h)

-- it stands at place 0
module _ {d n : ℕ} {t : List ℕ} (none : n ≡ 0) (rows : Rows d (first d n) t) where
  one : 0 < starts 0 d
  one = rw (starts_empty d) (omega arith)

  start : Rows d 0 t
  start = rw (first_0 d) at (rw none at rows)

  at_0 : 0 ≡ first d 0 + 0
  at_0 = sym (add-zero (first d 0) ∙ first_0 d)

  room : 8 ≤ length t
  room = row_room start 0 0 (omega arith) one at_0

  begun : {t' : List ℕ} → Written (λ q. get_or row q 0) 0 8 t t' → Rows d (first d (suc n)) t'
  begun w = rw (none, first_1 d) (rows_more start 0 0 (omega arith) one at_0 (row_none row row_is) w)

module _ (d n : ℕ) where
  level_start : (some : n ≡ 0 → ⊥) → first d n + starts n 0 ≡ first d n
  level_start some = let up : n ≡ suc (n - 1) = omega arith in rw up (rw (starts_none (n - 1)) (omega arith))

pub keep_row-requires : goal.keep_row-requires
keep_row-requires c = (room c.if-n-eq0.true c.requires.2, omega arith)

pub returns-then-n-eq0 : goal.returns-then-n-eq0
returns-then-n-eq0 c = begun c.if-n-eq0.true c.requires.2 c.keep_row.ensures

pub returns-then-n-eq5 : goal.returns-then-n-eq5
returns-then-n-eq5 c =
    rw c.if-n-eq5.true (rows_past (rw c.if-n-eq5.true at c.requires.2) (first c.args.d 6) (le_refl (first c.args.d 5)))

pub loop-r-init : goal.loop-r-init
loop-r-init c = rw (level_start c.args.d c.args.n c.if-n-eq0.false) c.requires.2

pub add_block-requires : goal.add_block-requires
add_block-requires c =
    let up : suc (c.args.n - 1) ≡ c.args.n = omega arith in
    (omega arith, search rules, search rules, rw up c.loop-r.invariant)

pub loop-r-preserved : goal.loop-r-preserved
loop-r-preserved c =
    let up : suc (c.args.n - 1) ≡ c.args.n = omega arith in
    let next : suc c.loop-r.r ≡ c.loop-r.r + 1 = omega arith in
    rw (up, next) at c.add_block.ensures

pub returns : goal.returns
returns c =
    let e : c.loop-r.r ≡ c.args.d = omega arith in
    rw (first_more c.args.d c.args.n) (rw e at c.loop-r.invariant)
