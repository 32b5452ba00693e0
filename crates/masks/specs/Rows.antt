-- For each number of entries more the clauses that may be met with so many.
use Rattle.std.specs.Prelude.{ℕ, ◌+◌, ◌*◌, ◌≤◌, ◌<◌, true, ◌≡◌, List, get_or}
use Rattle.folds.specs.Sets.{in_set}

-- the clauses that are in some mask from entry `from` to before `end`
pub record Joined (from end : ℕ) (masks : List ℕ) (all : ℕ) : Type 0 where
  pub has : (q b : ℕ) → from ≤ q → q < end → in_set (get_or masks q 0) b ≡ true → in_set all b ≡ true

-- no clause for no entry; otherwise only clauses that the number of entries meets, and each of `reached` among them
-- that some sum from `from` to before `end` meets
pub record RowFor (entries : List ℕ) (number reached : ℕ) (sums : List ℕ) (from end row : ℕ) : Type 0 where
  pub none : number ≡ 0 → row ≡ 0
  pub low : (b : ℕ) → in_set row b ≡ true → in_set (get_or entries number 0) b ≡ true
  pub high : 0 < number → (s b : ℕ) → from ≤ s → s < end → in_set (get_or entries number 0) b ≡ true
      → in_set reached b ≡ true → in_set (get_or sums s 0) b ≡ true → in_set row b ≡ true

-- that of each number of entries more than `count`
pub record Rows (entries : List ℕ) (count sum light heavy reached : ℕ) (sums rows : List ℕ) : Type 0 where
  pub each : (n : ℕ) → count + n ≤ 6
      → RowFor entries (count + n) reached sums (sum + n * light) (sum + n * heavy + 1) (get_or rows n 0)
  pub past : (n : ℕ) → 6 < count + n → get_or rows n 0 ≡ 0
