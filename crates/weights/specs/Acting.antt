-- Who may act in a role, as request Two has it: refusal 15 and conflicts of kind 3 ask for this.
use Rattle.std.specs.Prelude.{ℕ, Bool, ◌&&◌, ◌||◌, List, ltb}
use Rattle.folds.specs.Below.{any_below}
use Rattle.reader.specs.Tables.{hierarchy, role_count, user_count, table_of}
use Rattle.reader.specs.Codes.{holds}
use Rattle.weights.specs.Seniority.{senior_to}

-- user u of the base holds role s, and role r is junior to it
abbrev pub acts_through : List ℕ → ℕ → ℕ → ℕ → Bool
acts_through b u r s = holds b u s && senior_to (table_of b hierarchy) s r

-- user u of the base may act in role r: both are there, and u holds r, or r is junior to a role that u holds
unfoldable pub may_act : List ℕ → ℕ → ℕ → Bool
unfolding any_below senior_to
may_act b u r =
    (ltb u (user_count b) && ltb r (role_count b)) && (holds b u r || any_below (role_count b) (acts_through b u r))
