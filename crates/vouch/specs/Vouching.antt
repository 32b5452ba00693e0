-- Who vouches for whom, and the refusals of a group by it: 26 as one link more of the decision's chain.
use Rattle.std.specs.Prelude.{ℕ, Bool, ◌&&◌, not, cond, List, ltb, leb, eqb}
use Rattle.folds.specs.Below.{any_below}
use Rattle.reader.specs.Rules.{outside}
use Rattle.decision.specs.Groups.{entry_count, entry_user, present, weighed_refusal}
use Rattle.vouch.specs.Register.{statement_count, issuer, requester, stated_permission, trust, valid_from, valid_to}

-- statement i has trust of at least the threshold and is valid on the date, both days included
abbrev pub valid : List ℕ → ℕ → ℕ → ℕ → Bool
valid register threshold date i =
    leb threshold (trust register i) && not (outside (valid_from register i) (valid_to register i) date)

-- statement i is one from user u to user q for permission p, and it is valid
abbrev pub states : List ℕ → ℕ → ℕ → ℕ → ℕ → ℕ → ℕ → Bool
states register threshold p date u q i =
    eqb (issuer register i) u && (eqb (requester register i) q && (eqb (stated_permission register i) p
    && valid register threshold date i))

-- user u vouches for user q: some one statement says so
unfoldable pub vouches : List ℕ → ℕ → ℕ → ℕ → ℕ → ℕ → Bool
unfolding any_below
vouches register threshold p date u q =
    any_below (statement_count register) (states register threshold p date u q)

-- refusal 26: an entry but the first is of a user who doesn't vouch for the first entry's, the requester
unfoldable pub some_unvouched : (ℕ → ℕ → Bool) → List ℕ → Bool
unfolding any_below
some_unvouched vouches g =
    any_below (entry_count g) (λ i. ltb 0 i && not (vouches (entry_user g i) (entry_user g 0)))

-- the first of refusals 12 to 15, 24, 26, 16 and 17 that applies, or 0: the decision's chain with one link more
unfoldable pub vouched_refusal : ℕ → ℕ → (ℕ → ℕ → Bool) → (ℕ → Bool) → (ℕ → ℕ → Bool) → (ℕ → ℕ) →
    (ℕ → ℕ → ℕ → Bool) → List ℕ → ℕ
unfolding some_unvouched
vouched_refusal U R eligible out vouches weight condition g =
    present U R eligible out g (cond (some_unvouched vouches g) 26 (weighed_refusal weight condition g))
