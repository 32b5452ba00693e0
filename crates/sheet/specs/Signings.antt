-- Which of a list of signings on a new sheet are accepted, by request One's words, and the sheet that holds them.
use Rattle.std.specs.Prelude.{ℕ, Bool, false, ◌&&◌, ◌||◌, not, cond, List, [], ◌∷◌, ◌++◌, length, ltb, eqb}
use Rattle.reader.specs.Tables.{role_count, user_count}
use Rattle.reader.specs.Rules.{refusal_of}
use Rattle.weights.specs.Acting.{may_act}
use Rattle.sheet.specs.declared.Sheet.{Sheet}
use Rattle.sheet.specs.Sheets.{holding}

-- a user signs in a role, against a base
pub record Signing : Type 0 where
  pub base : List ℕ
  pub user : ℕ
  pub role : ℕ

-- one of the signings is by user u
unfoldable pub signed_by : List Signing → ℕ → Bool
signed_by [] u = false
signed_by (x ∷ xs) u = eqb x.user u || signed_by xs u

-- a signing is accepted where these are held: its base passes, its user and its role are there, the user has signed
-- none of those held and may act in the role, and fewer than six are held
unfoldable pub acceptable : List Signing → Signing → Bool
acceptable held x =
    eqb (refusal_of x.base) 0
    && (ltb x.user (user_count x.base)
    && (ltb x.role (role_count x.base)
    && (not (signed_by held x.user)
    && (may_act x.base x.user x.role
    && ltb (length held) 6))))

-- the accepted ones of a list of signings, in order, those of `before` having been accepted already
unfoldable pub accepted_after : List Signing → List Signing → List Signing
accepted_after before [] = []
accepted_after before (x ∷ xs) =
    cond (acceptable before x) (x ∷ accepted_after (before ++ (x ∷ [])) xs) (accepted_after before xs)

-- the accepted ones of a list of signings on a new sheet
abbrev pub accepted : List Signing → List Signing
accepted xs = accepted_after [] xs

-- their entries' bytes
unfoldable pub entries_of : List Signing → List ℕ
entries_of [] = []
entries_of (x ∷ xs) = x.user ∷ x.role ∷ entries_of xs

-- the sheet for permission p that holds these signings, in order, its unused bytes 0
abbrev pub sheet_with : ℕ → List Signing → Sheet
sheet_with p xs = holding p (entries_of xs)
