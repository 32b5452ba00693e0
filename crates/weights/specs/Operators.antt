-- Operators, shared by the conditions of contexts and groups.
use Rattle.std.specs.Prelude.{ℕ, ◌≤◌, ◌<◌, Bool, false, ◌&&◌, not, cond, ◌≡◌, ltb, leb, eqb}
use Rattle.folds.specs.Sets.{contains}

-- x stands to the value v as operator o says: 0 is >, 1 is <, 2 is >=, 3 is <=, 4 is ==, 5 is !=, 6 is "contains"
unfoldable pub meets : ℕ → ℕ → ℕ → Bool
meets o x v =
    cond (eqb o 0) (ltb v x)
    (cond (eqb o 1) (ltb x v)
    (cond (eqb o 2) (leb v x)
    (cond (eqb o 3) (leb x v)
    (cond (eqb o 4) (eqb x v)
    (cond (eqb o 5) (not (eqb x v))
    (cond (eqb o 6) (contains x v) false))))))

-- the numbers below 256 from `low` to before `end` but for `but` are those that stand to v as operator o says
pub record RangeOf (o v low end but : ℕ) : Type 0 where
  pub low_le : low ≤ 256
  pub end_le : end ≤ 256
  pub met : o ≤ 5 → (x : ℕ) → x < 256 → meets o x v ≡ (leb low x && (ltb x end && not (eqb x but)))
