-- The vouching decision: the first of refusals 1 to 9, 25, 27, 10 to 15, 24, 26, 16 and 17 that applies, or 0.
use Rattle.std.specs.Prelude.{◌≡◌, false, ℕ, not, cond, List, [], eqb}
use Rattle.reader.specs.Tables.{clauses, role_count, user_count, permission_count, table_of}
use Rattle.reader.specs.Rules.{refusal_of}
use Rattle.weights.specs.declared.Context.{Context}
use Rattle.weights.specs.Weights.{weight}
use Rattle.decision.specs.Conditions.{permission_holds}
use Rattle.decision.specs.Decision.{eligible, out_of_date, asking}
use Rattle.vouch.specs.Register.{register_refused, threshold_refused}
use Rattle.vouch.specs.Vouching.{vouches, vouched_refusal}

-- where a register is lent with a threshold: 1 to 9 of the base, 25 of the register, 27 of the threshold, before what
-- is left
abbrev pub stated : List ℕ → ℕ → List ℕ → ℕ → ℕ
stated register threshold b left =
    cond (not (eqb (refusal_of b) 0)) (refusal_of b)
    (cond (register_refused (user_count b) (permission_count b) register) 25
    (cond (threshold_refused threshold) 27 left))

-- none of these applies
pub record Lent (register : List ℕ) (threshold : ℕ) (b : List ℕ) : Type 0 where
  pub accepted : refusal_of b ≡ 0
  pub register_fine : register_refused (user_count b) (permission_count b) register ≡ false
  pub threshold_fine : threshold_refused threshold ≡ false

-- refusals 12 to 15, 24, 26, 16 and 17, with what the base, the context, the register and the permission hand to the
-- group
unfoldable pub group_vouched : List ℕ → ℕ → List ℕ → Context → ℕ → List ℕ → ℕ
unfolding vouched_refusal
group_vouched register threshold b at p g =
    vouched_refusal (user_count b) (role_count b) (eligible b at p) (out_of_date b at)
    (vouches register threshold p at.date) (λ r. weight [] b at r p) (permission_holds (table_of b clauses) p) g

-- the vouching decision
unfoldable pub decision_vouched : List ℕ → ℕ → List ℕ → Context → ℕ → List ℕ → ℕ
decision_vouched register threshold b at p g =
    stated register threshold b (asking b at p (group_vouched register threshold b at p g))
