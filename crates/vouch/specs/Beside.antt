-- Who may stand beside a requester. Working notions.
use Rattle.std.specs.Prelude.{ℕ, Bool, ◌<◌, ◌≡◌, ◌&&◌, not, cond, List, length, get_or, eqb}
use Rattle.folds.specs.Sets.{in_set}
use Rattle.vouch.specs.Register.{statement_count, issuer, stated_permission}
use Rattle.vouch.specs.Vouching.{vouches}

-- who may stand beside the requester q in which role: a user other than q who vouches for q
abbrev pub beside : (ℕ → ℕ → Bool) → (ℕ → ℕ → Bool) → ℕ → ℕ → ℕ → Bool
beside may vouches q = λ u r. may u r && (not (eqb u q) && vouches u q)

-- the statements name only users below 24 and permissions below 16
pub record Named (register : List ℕ) : Type 0 where
  pub user : (i : ℕ) → i < statement_count register → issuer register i < 24
  pub permission : (i : ℕ) → i < statement_count register → stated_permission register i < 16

-- for each of 16 permissions the set of the users who vouch for user q
pub record Vouching (register : List ℕ) (threshold date q : ℕ) (vouching : List ℕ) : Type 0 where
  pub user : (p u : ℕ) → p < 16 → in_set (get_or vouching p 0) u ≡ vouches register threshold p date u q

-- the sets of roles of the users in a set, but user q; empty for the others
pub record OthersOf (sets : List ℕ) (vouching q : ℕ) (others : List ℕ) : Type 0 where
  pub size : length others ≡ 24
  pub user : (u : ℕ) → u < 24 → get_or others u 0 ≡ cond (not (eqb u q) && in_set vouching u) (get_or sets u 0) 0
