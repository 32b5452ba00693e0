-- What the report's steps hand on. Working notions: the promise is in Report.antt and Demand.antt.
use Rattle.std.specs.Prelude.{ℕ, ◌*◌, ◌^◌, ◌<◌, ◌≤◌, false, cond, ◌≡◌, List, ◌++◌, length, get_or, drop}
use Rattle.folds.specs.Below.{join_below}
use Rattle.folds.specs.Sets.{set_below}
use Rattle.reader.specs.Tables.{role_count, permission_count}
use Rattle.reader.specs.Rules.{refusal_of}
use Rattle.weights.specs.declared.Context.{Context}
use Rattle.weights.specs.declared.Fixed.{Fixed}
use Rattle.weights.specs.Acting.{may_act}
use Rattle.weights.specs.Contexts.{out_of_range}
use Rattle.weights.specs.Setting.{rules_of, FixedBy, ChosenBy}
use Rattle.decision.specs.Decision.{out_of_date, decision_by}
use Rattle.multisets.specs.declared.ends.Users.{Users}
use Rattle.multisets.specs.Ends.{NextEnds}
use Rattle.masks.specs.Sets.{RoleCounts}
use Rattle.report.specs.declared.parts.Grounds.{Grounds}
use Rattle.report.specs.Smallest.{Deciding, smallest_by}
use Rattle.report.specs.Report.{ShownFrom, part_bytes, releasable}

-- for each of 24 users the set of the roles that the user may act in, if the user's days include the context's date;
-- empty for the others, and for users that aren't there
pub record SetsInDate (b : List ℕ) (at : Context) (sets : List ℕ) : Type 0 where
  pub size : length sets ≡ 24
  pub user : (u : ℕ) → u < 24 → get_or sets u 0 ≡ cond (out_of_date b at u) 0 (set_below 8 (may_act b u))

-- an accepted base, and a setting of it in a context in range
pub record Settled (b : List ℕ) (s : Fixed) : Type 0 where
  pub accepted : refusal_of b ≡ 0
  pub in_range : out_of_range s.at ≡ false
  pub fixed : FixedBy b s

-- the decision by the setting
abbrev pub decided : List ℕ → Fixed → Deciding
decided b s = decision_by (rules_of s) b s.at

-- what a report of the base goes by
pub record GroundsOf (b : List ℕ) (g : Grounds) : Type 0 where
  pub settled : Settled b g.fixed
  pub chosen : ChosenBy (rules_of g.fixed) b g.fixed.at g.chosen.own g.chosen.inh
  pub counted : RoleCounts (2 ^ role_count b) g.counts

-- the next ends of the base's users whose days include the context's date
pub record UsersOf (b : List ℕ) (at : Context) (nexts : List ℕ) : Type 0 where
  pub sets : List ℕ
  pub acting : SetsInDate b at sets
  pub ends : NextEnds sets nexts

-- ready to search among a base's users for the groups of P permissions, by its decision: with the base's grounds and
-- tables for its users
pub record Searching (from : ℕ) (decision : Deciding) (P : ℕ) (b : List ℕ) (g : Grounds) (whom : Users) : Type 0 where
  pub anybody : from ≡ 0
  pub by : decision ≡ decided b g.fixed
  pub permissions : P ≤ permission_count b
  pub grounds : GroundsOf b g
  pub users : UsersOf b g.fixed.at whom.nexts
  pub roles : whom.d ≡ role_count b

-- the 13 bytes of permission p
pub record PartFor (from : ℕ) (decision : Deciding) (p : ℕ) (part : List ℕ) : Type 0 where
  pub group : List ℕ
  pub shown : ShownFrom from decision p group
  pub bytes : part ≡ part_bytes (smallest_by decision p) group

-- the parts of the permissions below n stand in the buffer that held `out`; the bytes behind them are as they were
pub record Filled (from : ℕ) (decision : Deciding) (n : ℕ) (out after : List ℕ) : Type 0 where
  pub chosen : ℕ → List ℕ
  pub shown : (p : ℕ) → p < n → ShownFrom from decision p (chosen p)
  pub bytes : after ≡ join_below n (λ p. part_bytes (smallest_by decision p) (chosen p)) ++ drop (13 * n) out

-- and so many of them have a group
abbrev pub FilledBy : ℕ → Deciding → ℕ → List ℕ → List ℕ → ℕ → Type 0
FilledBy from decision n out after count = (count ≡ releasable decision n) × Filled from decision n out after
