-- Working notions of a batch: a group's entries, the users' words, and what is kept of the permissions asked for.
use Rattle.std.specs.Prelude.{ℕ, ◌+◌, ◌*◌, ◌^◌, ◌<◌, ◌≤◌, Bool, true, false, ◌&&◌, ◌||◌, not, cond, ◌≡◌, List, []}
use Rattle.std.specs.Prelude.{length, get_or, ltb, eqb}
use Rattle.std.specs.Int.Bits.{bit_or}
use Rattle.folds.specs.Below.{all_below, any_below}
use Rattle.folds.specs.Sets.{in_set, set_below}
use Rattle.reader.specs.Tables.{clauses, role_count, user_count, permission_count, record_count, table_of}
use Rattle.reader.specs.Fields.{clause_permission}
use Rattle.weights.specs.declared.Context.{Context}
use Rattle.weights.specs.Weights.{weight}
use Rattle.weights.specs.Acting.{may_act}
use Rattle.decision.specs.Conditions.{role_num}
use Rattle.decision.specs.Groups.{entry_count}
use Rattle.decision.specs.Decision.{out_of_date}
use Rattle.masks.specs.Clauses.{clauses_of, Checked, met, Narrowed}
use Rattle.batch.specs.Queries.{query_count, query, query_permission}

-- 1 to 6 whole entries
pub record Entries (g : List ℕ) : Type 0 where
  pub whole : length g ≡ 2 * entry_count g
  pub some : 1 ≤ entry_count g
  pub few : entry_count g ≤ 6

-- a user's bit, and bit 25 for a late one; bit 24 is free, and nobody reads those from 26 on
pub record UserWord (u : ℕ) (late : Bool) (w : ℕ) : Type 0 where
  pub user : (x : ℕ) → x < 24 → in_set w x ≡ eqb u x
  pub unable : in_set w 24 ≡ false
  pub late_is : in_set w 25 ≡ late

-- the word of a user for each role, with bit 24 where the role isn't in the set
pub record RoleWords (user able : ℕ) (words : List ℕ) : Type 0 where
  pub size : length words ≡ 8
  pub each : (r : ℕ) → r < 8 → get_or words r 0 ≡ cond (in_set able r) user (bit_or user (2 ^ 24))

-- the word of user u for role r: the user's bit, bit 24 where u may not act in r, and bit 25 where the date is out of
-- the user's days
pub record WordOf (b : List ℕ) (at : Context) (u r w : ℕ) : Type 0 where
  pub user : (x : ℕ) → x < 24 → in_set w x ≡ eqb u x
  pub unable : in_set w 24 ≡ not (may_act b u r)
  pub late : in_set w 25 ≡ out_of_date b at u

-- the words of all users and roles that are there, at place 8 * user + role
pub record WordsOf (b : List ℕ) (at : Context) (words : List ℕ) : Type 0 where
  pub size : length words ≡ 192
  pub each : (u r : ℕ) → u < user_count b → r < role_count b → WordOf b at u r (get_or words (8 * u + r) 0)

-- some query asks for permission p
abbrev pub asked_for : List ℕ → ℕ → Bool
asked_for queries p = any_below (query_count queries) (λ i. eqb (query_permission (query queries i)) p)

-- the set has the permissions that are there and that some query asks for
pub record AskedBy (permissions : ℕ) (queries : List ℕ) (asked : ℕ) : Type 0 where
  pub members : (p : ℕ) → in_set asked p ≡ (ltb p permissions && asked_for queries p)

-- the clauses of the permissions of a set
unfoldable pub clauses_asked : List ℕ → ℕ → ℕ
unfolding set_below
clauses_asked k asked = set_below (record_count clauses k) (λ i. in_set asked (clause_permission k i))

-- the roles' weights for each permission of the set, at place 8 * permission + role
pub record WeightsOf (b : List ℕ) (at : Context) (asked : ℕ) (weights : List ℕ) : Type 0 where
  pub size : length weights ≡ 128
  pub each : (p r : ℕ) → p < permission_count b → in_set asked p ≡ true → r < 8 →
      get_or weights (8 * p + r) 0 ≡ weight [] b at r p
  pub light : (i : ℕ) → i < 128 → get_or weights i 0 ≤ 40

-- the clauses of each permission of the set
pub record OwnOf (k : List ℕ) (permissions asked : ℕ) (own : List ℕ) : Type 0 where
  pub size : length own ≡ 16
  pub each : (p : ℕ) → p < permissions → in_set asked p ≡ true → get_or own p 0 ≡ clauses_of k p

-- of the clauses of a set's permissions, those that each number of entries meets, each sum, and each set of roles; by
-- a table K that passes the check
pub record MasksOf (b : List ℕ) (asked : ℕ) (entries sums sets : List ℕ) : Type 0 where
  pub table : Checked (table_of b clauses)
  pub entries_met : Narrowed (table_of b clauses) (clauses_asked (table_of b clauses) asked) 0 7 0 entries
  pub sums_met : Narrowed (table_of b clauses) (clauses_asked (table_of b clauses) asked) 0 256 1 sums
  pub sets_met : (v i : ℕ) → v < 2 ^ role_count b → in_set (get_or sets v 0) i
      ≡ (in_set (clauses_asked (table_of b clauses) asked) i
      && (met (table_of b clauses) i 2 (role_num v)
      && all_below 8 (λ r. in_set v r || met (table_of b clauses) i 3 r)))
