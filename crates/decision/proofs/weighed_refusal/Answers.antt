-- `weighed_refusal` meets its contract: 16, then the condition, by the weights worked out.
use Rattle.std.proofs.Common.{ℕ, Bool, true, false, List, get_or, ◌≡◌}
use mathlib.Core.Path.{sym, ◌∙◌}
use native.Mathlib.Nat.{lt_of_lt_of_le}
use Rattle.reader.specs.Tables.{clauses, table_of}
use Rattle.reader.specs.Rules.{refusal_of}
use Rattle.reader.proofs.Frame.{permissions_le}
use Rattle.reader.proofs.Accepted.{accepted, accepted_frame, clause_fine}
use Rattle.weights.specs.declared.Context.{Context}
use Rattle.weights.specs.Weights.{weight}
use Rattle.weights.specs.Setting.{AreWeights, rules_of}
use Rattle.weights.proofs.Weigh.{weights_le}
use Rattle.decision.specs.Conditions.{permission_holds}
use Rattle.decision.specs.Groups.{entry_count, sum_of, roles_of, some_weightless}
use Rattle.decision.specs.Decision.{weighed_of}
use Rattle.decision.specs.Members.{Seated}
use Rattle.decision.proofs.Granting.{weightless_same, sum_weights, condition_same}
use Rattle.decision.proofs.weighed_refusal.Goals as goal
use Rattle.decision.proofs.weighed_refusal.Goals.{After-role_weights-w}

-- what is worked out of an accepted base for a group m whose bytes are g: the table K and the roles' weights
record Weighed (rules b : List ℕ) (at : Context) (p : ℕ) (m g k w : List ℕ) : Type 0 where
  ok : refusal_of b ≡ 0
  bytes : g ≡ m
  seated : Seated g
  table : k ≡ table_of b clauses
  are : AreWeights rules b at p w

module _ {rules b : List ℕ} {at : Context} {p : ℕ} {m g k w : List ℕ} (d : Weighed rules b at p m g k w) where
  abbrev weigh : ℕ → ℕ
  weigh r = weight rules b at r p

  abbrev weightless : Bool
  weightless = some_weightless weigh g

  abbrev holds : Bool
  holds = permission_holds (table_of b clauses) p (entry_count g) (sum_of weigh g) (roles_of g)

  -- what is asked of the weights worked out is asked of the base
  weightless_is : {t : Bool} → t ≡ some_weightless (λ r. get_or w r 0) g → weightless ≡ t
  weightless_is is = sym (is ∙ weightless_same _ _ _ _ _ g d.are d.seated.low)

  holds_is : {t : Bool} {n sum set : ℕ} → t ≡ permission_holds k p n sum set → n ≡ entry_count g →
      sum ≡ sum_of (λ r. get_or w r 0) g → set ≡ roles_of g → holds ≡ t
  holds_is is count total roles =
      let weighed = sum_weights _ _ _ _ _ g d.are d.seated.low in
      sym (is ∙ condition_same rules b at p g _ _ _ _ d.table count (total ∙ weighed) roles)

  by_16 : weightless ≡ true → 16 ≡ weighed_of rules b at p m
  by_16 e = rw (← d.bytes, e)

  by_0 : weightless ≡ false → holds ≡ true → 0 ≡ weighed_of rules b at p m
  by_0 e h = rw (← d.bytes, e, h)

  by_17 : weightless ≡ false → holds ≡ false → 17 ≡ weighed_of rules b at p m
  by_17 e h = rw (← d.bytes, e, h)

-- after these calls, that is worked out
weighed : (c : After-role_weights-w) →
    Weighed (rules_of c.args.s) c.args.base.now c.args.s.at c.args.permission c.args.members.now
    c.bytes-group.result.now c.part-k.result.now c.role_weights-w.result
weighed c = record {
  ok = c.part-k.ensures.accepted;
  bytes = c.bytes-group.ensures.bytes;
  seated = rw c.bytes-group.ensures.bytes c.bytes-group.ensures.seated;
  table = c.part-k.ensures.table;
  are = c.role_weights-w.ensures _ _ _ c.part-k.ensures.accepted c.choose.ensures c.requires.1.juniors;
}

pub role_weights-w-requires : goal.role_weights-w-requires
role_weights-w-requires c = lt_of_lt_of_le c.requires.0 (permissions_le _ (accepted_frame _ c.part-k.ensures.accepted))

pub returns-then-some_weightless : goal.returns-then-some_weightless
returns-then-some_weightless c =
    let d = weighed (goal.at.returns-then-some_weightless c).After-role_weights-w in
    by_16 d (weightless_is d c.if-some_weightless.ensures)

pub sum_of-requires : goal.sum_of-requires
sum_of-requires c =
    let d = weighed (goal.at.sum_of-requires c).After-role_weights-w in
    (d.seated.few, d.seated.low, weights_le _ d.ok _ _ _ _ d.are)

pub permission_holds-requires : goal.permission_holds-requires
permission_holds-requires c =
    rw c.part-k.ensures.table (λ i l. (clause_fine _ _ _ i (accepted _ c.part-k.ensures.accepted).clauses l).at_most)

pub returns-then-permission_holds : goal.returns-then-permission_holds
returns-then-permission_holds c =
    let d = weighed (goal.at.returns-then-permission_holds c).After-role_weights-w in
    by_0 d (weightless_is d c.if-some_weightless.ensures)
    (holds_is d c.if-permission_holds.ensures c.entry_count.ensures c.sum_of.ensures.0 c.roles_of.ensures)

pub returns : goal.returns
returns c =
    let d = weighed (goal.at.returns c).After-role_weights-w in
    by_17 d (weightless_is d c.if-some_weightless.ensures)
    (holds_is d c.if-permission_holds.ensures c.entry_count.ensures c.sum_of.ensures.0 c.roles_of.ensures)
