-- The marked cases of document 01, together as a single statement about its rules.
use Rattle.std.specs.Prelude.{ℕ, true, false, ◌≡◌, [], ◌∷◌, map, length, ltb, leb}
use Rattle.reader.specs.Tables.{hierarchy, users, permissions, clauses, contexts, policies, exclusions}
use Rattle.reader.specs.Tables.{table_offset, role_count, table_of}
use Rattle.reader.specs.Fields.{parameter, first_day, last_day}
use Rattle.reader.specs.Rules.{refusal_of}
use Rattle.weights.specs.declared.Context.{Context}
use Rattle.weights.specs.Contexts.{out_of_range, context_holds}
use Rattle.weights.specs.Weights.{weight}
use Rattle.decision.specs.Groups.{entry_count, sum_of}
use Rattle.decision.specs.Decision.{decision_of}
use Rattle.related.specs.Related.{related}
use Rattle.shop.specs.Shop.{shop, manager, buyer, clerk, permission, at}
use Rattle.shop.specs.Shop.{manager_alone, manager_and_clerk, buyer_and_clerks, user0_twice, user2_as_buyer}
use Rattle.shop.specs.Shop.{with_parameter, up_to600, from600, before600, before0, edges}

pub record Marked : Type 0 where
  -- the base: "R = 3"; by request Seven "its offsets become 0, 4, 36, 38, 54, 70, 94 and its length 130"; it passes the
  -- check
  pub roles : role_count shop ≡ 3
  pub offsets :
      map (table_offset shop) (hierarchy ∷ users ∷ permissions ∷ clauses ∷ contexts ∷ policies ∷ exclusions ∷ [])
      ≡ (0 ∷ 4 ∷ 36 ∷ 38 ∷ 54 ∷ 70 ∷ 94 ∷ [])
  pub size : length shop ≡ 130
  pub passes : refusal_of shop ≡ 0
  -- "Users 0 to 3: 3, 5, 7, 7."; by request Seven "The small shop's users get days 0 and 65535"
  pub parameters : map (parameter (table_of shop users)) (0 ∷ 1 ∷ 2 ∷ 3 ∷ []) ≡ (3 ∷ 5 ∷ 7 ∷ 7 ∷ [])
  pub first_days : map (first_day (table_of shop users)) (0 ∷ 1 ∷ 2 ∷ 3 ∷ []) ≡ (0 ∷ 0 ∷ 0 ∷ 0 ∷ [])
  pub last_days : map (last_day (table_of shop users)) (0 ∷ 1 ∷ 2 ∷ 3 ∷ []) ≡ (65535 ∷ 65535 ∷ 65535 ∷ 65535 ∷ [])
  -- 1. "Minute 600: the weights are 5, 2, 1.", on every day, in every zone and on every date
  pub manager_600 : (d z t : ℕ) → weight [] shop (at 600 d z t) manager permission ≡ 5
  pub buyer_600 : (d z t : ℕ) → weight [] shop (at 600 d z t) buyer permission ≡ 2
  pub clerk_600 : (d z t : ℕ) → weight [] shop (at 600 d z t) clerk permission ≡ 1
  -- 2. "Minute 480: 4, 1, 0."
  pub manager_480 : (d z t : ℕ) → weight [] shop (at 480 d z t) manager permission ≡ 4
  pub buyer_480 : (d z t : ℕ) → weight [] shop (at 480 d z t) buyer permission ≡ 1
  pub clerk_480 : (d z t : ℕ) → weight [] shop (at 480 d z t) clerk permission ≡ 0
  -- 3. "Minutes 540 and 1020: the clerk has 1; at 539 and 1021, 0."
  pub clerk_540 : (d z t : ℕ) → weight [] shop (at 540 d z t) clerk permission ≡ 1
  pub clerk_1020 : (d z t : ℕ) → weight [] shop (at 1020 d z t) clerk permission ≡ 1
  pub clerk_539 : (d z t : ℕ) → weight [] shop (at 539 d z t) clerk permission ≡ 0
  pub clerk_1021 : (d z t : ℕ) → weight [] shop (at 1021 d z t) clerk permission ≡ 0
  -- 4. "Minute 600, manager alone: 17, sum 5 but one entry.", on every day, in every zone and on every date in range
  pub alone : (d z t : ℕ) → out_of_range (at 600 d z t) ≡ false →
      decision_of shop (at 600 d z t) permission manager_alone ≡ 17
  pub alone_sum : (d z t : ℕ) → sum_of (λ r. weight [] shop (at 600 d z t) r permission) manager_alone ≡ 5
  pub alone_entries : entry_count manager_alone ≡ 1
  -- 5. "Minute 600, manager and clerk: 0, sum 6.", with either clerk
  pub two_with_2 : (d z t : ℕ) → out_of_range (at 600 d z t) ≡ false →
      decision_of shop (at 600 d z t) permission (manager_and_clerk 2) ≡ 0
  pub two_with_3 : (d z t : ℕ) → out_of_range (at 600 d z t) ≡ false →
      decision_of shop (at 600 d z t) permission (manager_and_clerk 3) ≡ 0
  pub sum_with_2 : (d z t : ℕ) → sum_of (λ r. weight [] shop (at 600 d z t) r permission) (manager_and_clerk 2) ≡ 6
  pub sum_with_3 : (d z t : ℕ) → sum_of (λ r. weight [] shop (at 600 d z t) r permission) (manager_and_clerk 3) ≡ 6
  -- 6. "Minute 600, buyer and both clerks: 17, sum 4."
  pub three : (d z t : ℕ) → out_of_range (at 600 d z t) ≡ false →
      decision_of shop (at 600 d z t) permission buyer_and_clerks ≡ 17
  pub three_sum : (d z t : ℕ) → sum_of (λ r. weight [] shop (at 600 d z t) r permission) buyer_and_clerks ≡ 4
  -- 7. "Minute 480, manager and clerk: 16.", with either clerk
  pub weightless_with_2 : (d z t : ℕ) → out_of_range (at 480 d z t) ≡ false →
      decision_of shop (at 480 d z t) permission (manager_and_clerk 2) ≡ 16
  pub weightless_with_3 : (d z t : ℕ) → out_of_range (at 480 d z t) ≡ false →
      decision_of shop (at 480 d z t) permission (manager_and_clerk 3) ≡ 16
  -- 8. "User 0 twice: 14; user 2 as buyer: 15.", in every context in range
  pub twice : (c : Context) → out_of_range c ≡ false → decision_of shop c permission user0_twice ≡ 14
  pub may_not_act : (c : Context) → out_of_range c ≡ false → decision_of shop c permission user2_as_buyer ≡ 15
  -- 9. "Parameters 1 and 105 pass with R = 3; 0, 9 and 11 get 5."
  pub parameter_is : (x : ℕ) → parameter (table_of (with_parameter x) users) 3 ≡ x
  pub parameter_roles : (x : ℕ) → role_count (with_parameter x) ≡ 3
  pub parameter_1 : refusal_of (with_parameter 1) ≡ 0
  pub parameter_105 : refusal_of (with_parameter 105) ≡ 0
  pub parameter_0 : refusal_of (with_parameter 0) ≡ 5
  pub parameter_9 : refusal_of (with_parameter 9) ≡ 5
  pub parameter_11 : refusal_of (with_parameter 11) ≡ 5
  -- 10. "minute <= 600 and minute >= 600 are related; minute < 600 and minute >= 600 aren't; minute < 0 isn't related
  -- to itself.": an accepted base, when its four context numbers hold, and which are related
  pub edges_pass : refusal_of edges ≡ 0
  pub up_to_600 : (c : Context) → context_holds c (table_of edges contexts) up_to600 ≡ leb c.minute 600
  pub from_600 : (c : Context) → context_holds c (table_of edges contexts) from600 ≡ leb 600 c.minute
  pub before_600 : (c : Context) → context_holds c (table_of edges contexts) before600 ≡ ltb c.minute 600
  pub before_0 : (c : Context) → context_holds c (table_of edges contexts) before0 ≡ ltb c.minute 0
  pub met_at_600 : related (table_of edges contexts) up_to600 from600 ≡ true
  pub apart_at_600 : related (table_of edges contexts) before600 from600 ≡ false
  pub never : related (table_of edges contexts) before0 before0 ≡ false
