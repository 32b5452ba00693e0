-- What the functions below the call count: the entries by the sets of each role's juniors. The law `touched_by` says
-- that they are those of `touched`.
use Rattle.std.specs.Prelude.{ℕ, Bool, ◌||◌, List, get_or, eqb}
use Rattle.folds.specs.Below.{count_below}
use Rattle.folds.specs.Sets.{in_set}
use Rattle.decision.specs.Groups.{entry_count, entry_role}

-- role r is role q or has q among its juniors
abbrev pub at_or_above : List ℕ → ℕ → ℕ → Bool
at_or_above juniors q r = eqb r q || in_set (get_or juniors r 0) q

-- the number of entries in such roles
unfoldable pub entries_at_or_above : List ℕ → ℕ → List ℕ → ℕ
unfolding count_below
entries_at_or_above juniors q g = count_below (entry_count g) (λ k. at_or_above juniors q (entry_role g k))
