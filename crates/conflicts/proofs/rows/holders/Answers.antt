-- `holders` meets its contract: each user has its row, by the set of the roles in which the user may act.
use Rattle.std.proofs.Common.{ℕ, ◌≡◌, ◌<◌, ◌≤◌, false, List, get_or, rules, arith}
use Rattle.folds.specs.Sets.{in_set}
use Rattle.reader.specs.Tables.{exclusions, user_count, table_of, record_count}
use Rattle.reader.specs.Rules.{exclusions_bad, refusal_of}
use Rattle.weights.specs.Setting.{ActingSets}
use Rattle.conflicts.specs.Conflicts.{both_among}
use Rattle.conflicts.specs.Rows.{Rows, Holders}
use Rattle.conflicts.proofs.Tables.{exclusions_small, few_exclusions}
use Rattle.conflicts.proofs.Found.{holders_found}
use Rattle.conflicts.proofs.rows.holders.Goals as goal
use Rattle.conflicts.proofs.rows.holders.Goals.{After-user_count}

-- a base's exclusions and the number of its users, as they were read
record Read (b x : List ℕ) (n : ℕ) : Type 0 where
  ok : refusal_of b ≡ 0
  table : x ≡ table_of b exclusions
  count : (n ≡ user_count b) × (n ≤ 24)

module _ {b x : List ℕ} {n : ℕ} (r : Read b x n) where
  fine : exclusions_bad 8 16 x ≡ false
  fine = rw r.table (exclusions_small b r.ok)

  few : record_count exclusions x ≤ 64
  few = few_exclusions b r.ok r.table

  found : {sets rows : List ℕ} → ActingSets b sets →
      Rows n (record_count exclusions x) (λ u. both_among (in_set (get_or sets u 0)) x) rows → Holders b rows
  found acting are = holders_found b r.ok _ _ acting (rw (r.count.0, r.table) at are)

read : (c : After-user_count) → Read c.args.base.now c.part-x.result.now c.user_count.result
read c = record { ok = c.part-x.ensures.accepted; table = c.part-x.ensures.table; count = c.user_count.ensures }

pub of-requires-clause-few : goal.of-requires-clause-few
of-requires-clause-few c = let n = c.user_count.ensures.1 in omega arith

pub of-requires-clause-callable : goal.of-requires-clause-callable
of-requires-clause-callable c =
    let r = read (goal.at.of-requires-clause-callable c).After-user_count in
    let x_fine = fine r in
    let x_few = few r in
    let n = c.user_count.ensures.1 in
    λ u l. let there : u < 24 = omega arith in search rules

pub returns-clause-rows : goal.returns-clause-rows
returns-clause-rows c =
    let r = read (goal.at.returns-clause-rows c).After-user_count in
    found r c.requires (record { row = λ u e l. let row = c.of.ensures.rows u l in search rules })
