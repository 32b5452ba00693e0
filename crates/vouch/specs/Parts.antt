-- What the vouching report's steps hand on. Working notions: the promise is in Report.antt.
use Rattle.std.specs.Prelude.{ℕ, ◌<◌, ◌≤◌, ◌≡◌, List, []}
use Rattle.reader.specs.Tables.{role_count, permission_count, user_count}
use Rattle.weights.specs.declared.Context.{Context}
use Rattle.weights.specs.Setting.{rules_of}
use Rattle.multisets.specs.Ends.{NextEnds}
use Rattle.multisets.specs.declared.ends.Users.{Users}
use Rattle.report.specs.declared.parts.Grounds.{Grounds}
use Rattle.report.specs.Smallest.{Deciding}
use Rattle.report.specs.Parts.{SetsInDate, GroundsOf, FilledBy}
use Rattle.vouch.specs.Decision.{Lent}
use Rattle.vouch.specs.Beside.{Vouching, OthersOf}
use Rattle.vouch.specs.Report.{led_vouched}
use Rattle.vouch.specs.declared.parts.Asked.{Asked}

-- whom a report of an accepted base is for, by a register and a threshold that aren't refused
pub record AskedFor (register : List ℕ) (threshold : ℕ) (b : List ℕ) (at : Context) (asked : Asked) : Type 0 where
  pub lent : Lent register threshold b
  pub there : asked.requester < user_count b
  pub acting : SetsInDate b at asked.sets
  pub vouching : Vouching register threshold at.date asked.requester asked.vouching

-- the next ends of those of a set of users who may stand beside the requester
pub record Among (asked : Asked) (vouching : ℕ) (nexts : List ℕ) : Type 0 where
  pub others : List ℕ
  pub of : OthersOf asked.sets vouching asked.requester others
  pub ends : NextEnds others nexts

-- the search is ready for P permissions, with tables for the users in the set `among`
pub record SearchingLed (from : ℕ) (decision : Deciding) (P : ℕ) (b : List ℕ) (g : Grounds) (asked : Asked) (among : ℕ)
    (whom : Users) : Type 0 where
  pub led : from ≡ 1
  pub register : List ℕ
  pub threshold : ℕ
  pub by : decision ≡ led_vouched register threshold b g.fixed.at asked.requester
  pub asked_for : AskedFor register threshold b g.fixed.at asked
  pub permissions : P ≤ permission_count b
  pub grounds : GroundsOf b g
  pub plain : rules_of g.fixed ≡ []
  pub users : Among asked among whom.nexts
  pub roles : whom.d ≡ role_count b

-- the parts stand in the buffer, and so many of them have a group, by every register and threshold by which the
-- requester is asked for
abbrev pub FilledFor : List ℕ → Context → Asked → List ℕ → List ℕ → ℕ → Type 0
FilledFor b at asked out after count =
    (register : List ℕ) (threshold : ℕ) → AskedFor register threshold b at asked →
    FilledBy 1 (led_vouched register threshold b at asked.requester) (permission_count b) out after count
