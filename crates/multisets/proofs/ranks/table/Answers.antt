-- Each number of the table is the start that it stands for.
use Rattle.std.proofs.Common.{ℕ, ◌+◌, ◌*◌, ◌≤◌, Bool, true, ◌&&◌, List, [], ◌∷◌, ◌≡◌, refl, get_or, eqb, leb, arith}
use borrow.Author.Tests.{eqb-true, leb-true}
use Rattle.folds.specs.Below.{all_below, sum_below}
use Rattle.folds.proofs.Bools.{and_left, and_right}
use Rattle.folds.proofs.Tests.{all_at}
use Rattle.multisets.specs.Ranks.{starts}
use Rattle.multisets.proofs.ranks.table.Goals as goal

abbrev table : List ℕ
table =
    1 ∷ 1 ∷ 1 ∷ 1 ∷ 1 ∷ 1 ∷ 1 ∷ 1 ∷ 1 ∷ 1 ∷
    0 ∷ 1 ∷ 2 ∷ 3 ∷ 4 ∷ 5 ∷ 6 ∷ 7 ∷ 8 ∷ 9 ∷
    0 ∷ 1 ∷ 3 ∷ 6 ∷ 10 ∷ 15 ∷ 21 ∷ 28 ∷ 36 ∷ 45 ∷
    0 ∷ 1 ∷ 4 ∷ 10 ∷ 20 ∷ 35 ∷ 56 ∷ 84 ∷ 120 ∷ 165 ∷
    0 ∷ 1 ∷ 5 ∷ 15 ∷ 35 ∷ 70 ∷ 126 ∷ 210 ∷ 330 ∷ 495 ∷
    0 ∷ 1 ∷ 6 ∷ 21 ∷ 56 ∷ 126 ∷ 252 ∷ 462 ∷ 792 ∷ 1287 ∷
    0 ∷ 1 ∷ 7 ∷ 28 ∷ 84 ∷ 210 ∷ 462 ∷ 924 ∷ 1716 ∷ 3003 ∷ []

-- the table's rule, at each of its entries
right : ℕ → ℕ → Bool
unfolding starts
right n d = eqb (get_or table (10 * n + d) 0) (starts n d) && leb (get_or table (10 * n + d) 0) 3003

all_right : all_below 7 (λ n. all_below 10 (right n)) ≡ true
unfolding all_below right starts sum_below
all_right = refl

right_at : (n d : ℕ) → n ≤ 6 → d ≤ 9 → (get_or table (10 * n + d) 0 ≡ starts n d) × (get_or table (10 * n + d) 0 ≤ 3003)
unfolding right
right_at n d h k =
    let e = all_at (right n) 10 (all_at (λ n. all_below 10 (right n)) 7 all_right n (omega arith)) d (omega arith) in
    (eqb-true _ _ (and_left _ _ e), leb-true _ _ (and_right (eqb (get_or table (10 * n + d) 0) (starts n d)) _ e))

pub returns : goal.returns
returns c = record { size = refl; start = λ n d h k. (right_at n d h k).0; most = λ n d h k. (right_at n d h k).1 }
