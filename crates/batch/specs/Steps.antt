-- What the steps of a batch hand on. Working notions: the promise is in Batch.antt.
use Rattle.std.specs.Prelude.{ℕ, ◌+◌, ◌*◌, ◌<◌, Bool, false, ◌&&◌, ◌≡◌, List, [], get_or, eqb}
use Rattle.folds.specs.Below.{any_below, sum_below}
use Rattle.folds.specs.Sets.{in_set, set_below}
use Rattle.reader.specs.Rules.{refusal_of}
use Rattle.reader.specs.Tables.{clauses, role_count, user_count, permission_count, table_of}
use Rattle.weights.specs.declared.Context.{Context}
use Rattle.weights.specs.Contexts.{out_of_range}
use Rattle.weights.specs.declared.Fixed.{Fixed}
use Rattle.weights.specs.Setting.{rules_of, FixedBy}
use Rattle.decision.specs.Groups.{entry_user, entry_role, unknown_at}
use Rattle.batch.specs.Queries.{query_permission, query_group}
use Rattle.batch.specs.Asked.{Entries, WordsOf, AskedBy, WeightsOf, OwnOf, MasksOf}
use Rattle.batch.specs.declared.queries.Query.{Query}
use Rattle.batch.specs.declared.users.Users.{Users}
use Rattle.batch.specs.declared.users.Seen.{Seen}
use Rattle.batch.specs.declared.permissions.Permissions.{Permissions}
use Rattle.batch.specs.declared.grounds.Grounds.{Grounds}

-- s is the setting of an accepted base, without a list, in a context in range
pub record Settled (b : List ℕ) (s : Fixed) : Type 0 where
  pub accepted : refusal_of b ≡ 0
  pub in_range : out_of_range s.at ≡ false
  pub fixed : FixedBy b s
  pub unlisted : rules_of s ≡ []

-- what query q asks of P permissions
pub record QueryOf (P : ℕ) (q : List ℕ) (asks : Query) : Type 0 where
  pub there : asks.permission < P
  pub permission : asks.permission ≡ query_permission q
  pub group : asks.group.now ≡ query_group q
  pub entries : Entries asks.group.now

-- the users and roles that are there, and their words
pub record UsersOf (b : List ℕ) (at : Context) (u : Users) : Type 0 where
  pub count : u.user_count ≡ user_count b
  pub roles : u.role_count ≡ role_count b
  pub words : WordsOf b at u.words

-- the word of entry i
abbrev pub word_at : Users → List ℕ → ℕ → ℕ
word_at u g i = get_or u.words (8 * entry_user g i + entry_role g i) 0

-- bit x is in the word of entry i and in one before it
abbrev pub again_at : Users → List ℕ → ℕ → ℕ → Bool
again_at u g x i = any_below i (λ j. in_set (word_at u g j) x) && in_set (word_at u g i) x

-- what a look at a group's first n entries tells by the weights w, where none of them is unknown
pub record Looked (u : Users) (w g : List ℕ) (n : ℕ) (seen : Seen) : Type 0 where
  pub known : (i : ℕ) → i < n → unknown_at u.user_count u.role_count g i ≡ false
  pub words : (x : ℕ) → in_set seen.words x ≡ any_below n (λ i. in_set (word_at u g i) x)
  pub twice : (x : ℕ) → in_set seen.twice x ≡ any_below n (again_at u g x)
  pub sum : seen.sum ≡ sum_below n (λ i. get_or w (entry_role g i) 0)
  pub roles : seen.roles ≡ set_below 8 (λ r. any_below n (λ i. eqb (entry_role g i) r))

-- the weights and clauses of the permissions asked for, and the masks of what is met
pub record PermissionsOf (b : List ℕ) (at : Context) (asked : ℕ) (s : Permissions) : Type 0 where
  pub weights : WeightsOf b at asked s.weights
  pub weightless : (p r : ℕ) → p < 16 → r < 8 →
      in_set (get_or s.weightless p 0) r ≡ eqb (get_or s.weights (8 * p + r) 0) 0
  pub own : OwnOf (table_of b clauses) (permission_count b) asked s.own
  pub masks : MasksOf b asked s.entries s.masks.now.sums s.masks.now.sets

-- what the queries go by, of an accepted base in a context in range; `asked` is the set of the permissions asked for
pub record GroundsFor (b : List ℕ) (at : Context) (queries : List ℕ) (grounds : Grounds) : Type 0 where
  pub accepted : refusal_of b ≡ 0
  pub in_range : out_of_range at ≡ false
  pub count : grounds.permission_count ≡ permission_count b
  pub users : UsersOf b at grounds.users
  pub asked : ℕ
  pub members : AskedBy (permission_count b) queries asked
  pub permissions : PermissionsOf b at asked grounds.permissions
