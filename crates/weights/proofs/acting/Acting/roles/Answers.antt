-- The roles gathered are those held, each with its juniors.
use Rattle.std.proofs.Common.{◌≡◌, ℕ, ◌^◌, List, ◌&&◌, get_or, bit_or, ap, ◌∙◌, rules, tests}
use Rattle.folds.specs.Below.{any_below}
use Rattle.folds.specs.Sets.{in_set, set_below}
use Rattle.folds.proofs.Tests.{any_same}
use Rattle.reader.specs.Tables.{users, hierarchy, role_count, table_of}
use Rattle.reader.specs.Codes.{held_by}
use Rattle.reader.specs.Rules.{refusal_of}
use Rattle.weights.specs.Acting.{may_act}
use Rattle.weights.specs.Setting.{Juniors}
use Rattle.folds.proofs.Folds.{fold_callable, fold_gathers}
use Rattle.weights.proofs.MayAct.{gives, acting_set}
use Rattle.weights.proofs.Steps.{in_with}
use Rattle.weights.proofs.acting.Acting.roles.Goals as goal

-- of plain values
module _ (R : ℕ) (us juniors : List ℕ) (u set : ℕ) where
  finished : ((r : ℕ) → in_set set r
      ≡ any_below 8 (λ s. held_by R us u s && in_set (bit_or (2 ^ s) (get_or juniors s 0)) r)) →
      (b : List ℕ) → refusal_of b ≡ 0 → Juniors (table_of b hierarchy) juniors → us ≡ table_of b users →
      R ≡ role_count b → set ≡ set_below 8 (may_act b u)
  finished has b ok are us_are R_is =
      acting_set b ok juniors are u set
      (λ r. rw (← us_are, ← R_is) (has r ∙ any_same _ (gives R us juniors u r) 8 (λ s l. rw in_with)))

pub fold-requires-clause-callable : goal.fold-requires-clause-callable
fold-requires-clause-callable c =
    fold_callable 8 (cc) (λ a x b q k. search (rules, tests))
    (λ a x l. let few = c.role_count-roles.ensures.1 in search rules)

pub returns-clause-roles : goal.returns-clause-roles
returns-clause-roles c =
    let R = c.role_count-roles.result in
    let us = c.part-users.result.now in
    let juniors = c.self.inside.juniors in
    finished R us juniors c.args.user _
    (fold_gathers (held_by R us c.args.user) (λ s. bit_or (2 ^ s) (get_or juniors s 0)) 8 _ (cc)
    (λ a x b q k. search (rules, tests)) c.fold.ensures.ran)
    _ c.part-users.ensures.accepted c.self.invariant c.part-users.ensures.table c.role_count-roles.ensures.0
    ∙ ap (λ b. set_below 8 (may_act b c.args.user)) c.self.view_is
