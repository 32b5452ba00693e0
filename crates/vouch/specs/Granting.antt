-- A group that the vouching decision grants, in the words of its law of granting.
use Rattle.std.specs.Prelude.{ℕ, ◌<◌, Bool, true, ◌≡◌, List}
use Rattle.decision.specs.Groups.{entry_count, entry_user}
use Rattle.decision.specs.Granting.{Granted}

-- every entry but the first is of a user who vouches for the first entry's
abbrev pub Vouched : (ℕ → ℕ → Bool) → List ℕ → Type 0
Vouched vouches g = (i : ℕ) → 0 < i → i < entry_count g → vouches (entry_user g i) (entry_user g 0) ≡ true

-- granted as by the first decision, and vouched for
pub record GrantedVouched (U R : ℕ) (may : ℕ → ℕ → Bool) (out : ℕ → Bool) (vouches : ℕ → ℕ → Bool) (weigh : ℕ → ℕ)
    (condition : ℕ → ℕ → ℕ → Bool) (g : List ℕ) : Type 0 where
  pub granted : Granted U R may out weigh condition g
  pub vouched : Vouched vouches g
