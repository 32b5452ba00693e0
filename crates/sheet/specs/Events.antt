-- What happens to a sheet and which signatures it then holds, by the requests' words; the sheets that calls made.
use Rattle.std.specs.Prelude.{ℕ, ◌*◌, ◌<◌, ◌≤◌, Bool, false, ◌&&◌, ◌||◌, not, cond, ◌≡◌, List, [], ◌∷◌, ◌++◌}
use Rattle.std.specs.Prelude.{map, length, get_or, eqb}
use Rattle.decision.specs.Groups.{entry_count, entry_user}
use Rattle.sheet.specs.declared.Sheet.{Sheet}
use Rattle.sheet.specs.Sheets.{Outcome}
use Rattle.sheet.specs.Sheets.{held_on, opened, signed, withdrawn}
use Rattle.sheet.specs.Signings.{Signing, signed_by, acceptable}

-- a user signs in a role, against a base, or is withdrawn
pub data Event : Type 0 where
  signs : Signing → Event
  withdraws : ℕ → Event

-- the event takes the signature back: it withdraws its user
unfoldable pub takes_back : Event → Signing → Bool
takes_back (signs y) x = false
takes_back (withdraws u) x = eqb x.user u

-- one of the events does
unfoldable pub taken_back : List Event → Signing → Bool
taken_back [] x = false
taken_back (e ∷ es) x = takes_back e x || taken_back es x

-- an accepted signature, and what happened since
pub record Signature : Type 0 where
  pub signing : Signing
  pub since : List Event

abbrev pub signing_of : Signature → Signing
signing_of x = x.signing

-- those not withdrawn since, in order of acceptance
unfoldable pub standing : List Signature → List Signing
standing [] = []
standing (x ∷ xs) = cond (taken_back x.since x.signing) (standing xs) (x.signing ∷ standing xs)

-- the signature that an event is, if it is one: a signing that is accepted where these are held
unfoldable pub new_in : List Signing → Event → List Signature
new_in held (signs x) = cond (acceptable held x) (record { signing = x; since = [] } ∷ []) []
new_in held (withdraws u) = []

-- the same signature, one event later
abbrev pub later : Event → Signature → Signature
later e x = record { signing = x.signing; since = x.since ++ (e ∷ []) }

-- all signatures accepted up to the end of a list of events, in order, those of `before` having been accepted already;
-- each signing is judged by those not withdrawn since
unfoldable pub signatures_after : List Signature → List Event → List Signature
signatures_after before [] = before
signatures_after before (e ∷ es) = signatures_after (map (later e) before ++ new_in (standing before) e) es

-- the signatures accepted in a list of events on a new sheet
abbrev pub signatures : List Event → List Signature
signatures es = signatures_after [] es

-- what the sheet holds then: each accepted signature not withdrawn since
abbrev pub held_after : List Event → List Signing
held_after es = standing (signatures es)

-- what an event adds that stays, where these are held and es follow: a signing that is accepted and that none of them
-- takes back
unfoldable pub lasting : List Signing → Event → List Event → List Signing
lasting held (signs x) es = cond (acceptable held x && not (taken_back es x)) (x ∷ []) []
lasting held (withdraws u) es = []

-- what the events behind `past` add that stays, each where a sheet holds what stands after all before it
unfoldable pub lasting_after : List Event → List Event → List Signing
lasting_after past [] = []
lasting_after past (e ∷ es) = lasting (held_after past) e es ++ lasting_after (past ++ (e ∷ [])) es

-- an event is done where these are held: a signing is accepted, a withdrawal finds a signature of its user
unfoldable pub is_done : List Signing → Event → Bool
is_done held (signs x) = acceptable held x
is_done held (withdraws u) = signed_by held u

-- the call that an event is
unfoldable pub called : Sheet → Event → Outcome
called s (signs x) = signed x.base s x.user x.role
called s (withdraws u) = withdrawn s u

-- the sheet that the calls leave, one event after the other
unfoldable pub after_all : Sheet → List Event → Sheet
after_all s [] = s
after_all s (e ∷ es) = after_all (called s e).sheet es

-- the signing that an event is, if it is one
unfoldable pub signing_in : Event → List Signing
signing_in (signs x) = x ∷ []
signing_in (withdraws u) = []

-- the signings to which the calls answer 0
unfoldable pub answered_done : Sheet → List Event → List Signing
answered_done s [] = []
answered_done s (e ∷ es) =
    cond (eqb (called s e).refusal 0) (signing_in e) [] ++ answered_done (called s e).sheet es

-- the sheet came from an opening, done or refused, by signings, each against any base whatever, and withdrawals
pub record Made (s : Sheet) : Type 0 where
  pub base : List ℕ
  pub permission : ℕ
  pub events : List Event
  pub is : s ≡ after_all (opened base permission).sheet events

-- at most six entries, of different users; the count is their number; the unused bytes are 0
pub record Orderly (s : Sheet) : Type 0 where
  pub size : length s.entries ≡ 12
  pub few : s.count ≤ 6
  pub counted : entry_count (held_on s) ≡ s.count
  pub different : (i j : ℕ) → i < j → j < s.count → entry_user (held_on s) i ≡ entry_user (held_on s) j → ⊥
  pub clear : (i : ℕ) → 2 * s.count ≤ i → get_or s.entries i 0 ≡ 0
