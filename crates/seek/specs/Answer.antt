-- What a search answers, as an Option.
use Rattle.std.specs.Prelude.{ℕ, ◌≤◌, Bool, List, replicate, IfSome}
use Rattle.std.specs.declared.option.Option.{Option}
use Rattle.std.specs.declared.option.Option.TheVariants.{Some, None}
use Rattle.seek.specs.Search.{Answered}
use Rattle.seek.specs.declared.Found.{Found}

-- the number of entries found, or 7
abbrev pub number_found : Option Found → ℕ
number_found None = 7
number_found (Some f) = f.n

-- their twelve bytes, or 255 in each
abbrev pub group_found : Option Found → List ℕ
group_found None = replicate 12 255
group_found (Some f) = f.group

-- the answer of a search: the fewest entries that meet the condition, or none
pub record AnsweredWith (sets w : List ℕ) (placed : ℕ) (condition : ℕ → ℕ → ℕ → Bool) (last : ℕ) (o : Option Found)
    : Type 0 where
  pub answered : Answered sets w placed condition last (number_found o) (group_found o)
  pub some : IfSome o (λ f. f.n ≤ 6)
