-- Which clauses of a permission are met, taken apart by the attributes that their conditions are on.
use Rattle.std.specs.Prelude.{ℕ, ◌≤◌, ◌<◌, Bool, false, ◌&&◌, ◌||◌, not, cond, ◌≡◌, List, eqb, ltb, leb, length, get_or}
use Rattle.folds.specs.Below.{all_below}
use Rattle.folds.specs.Sets.{in_set, set_below}
use Rattle.reader.specs.Tables.{clauses, record_count}
use Rattle.reader.specs.Fields.{clause_permission, clause_length, condition_attribute}
use Rattle.reader.specs.Fields.{condition_operator, condition_value}
use Rattle.reader.specs.Rules.{clauses_bad}
use Rattle.weights.specs.Operators.{meets}
use Rattle.masks.specs.declared.asked.Asked.{Asked}

-- the permission's clauses
unfoldable pub clauses_of : List ℕ → ℕ → ℕ
unfolding set_below
clauses_of k p = set_below (record_count clauses k) (λ i. eqb (clause_permission k i) p)

-- a table K of a base that passes the check
pub record Checked (k : List ℕ) : Type 0 where
  pub roles : ℕ
  pub permissions : ℕ
  pub roles_le : roles ≤ 8
  pub short : length k ≤ 1024
  pub fine : clauses_bad roles permissions k ≡ false

-- x stands to the value v as operator o says
unfoldable pub stands_to : ℕ → ℕ → ℕ → Bool
unfolding meets
stands_to o v x = meets o x v

-- r isn't in the set v
unfoldable pub lacks : ℕ → ℕ → Bool
unfolding in_set
lacks v r = not (in_set v r)

-- condition j of clause i, if it is on attribute a, is met at x: for attributes 0 to 2 the value, for 3 a role, which
-- meets it where it isn't asked for
unfoldable pub met_at : List ℕ → ℕ → ℕ → ℕ → ℕ → Bool
unfolding stands_to lacks
met_at k i j a x =
    not (eqb (condition_attribute k i j) a)
    || cond (eqb a 3) (lacks (condition_value k i j) x) (stands_to (condition_operator k i j) (condition_value k i j) x)

-- so are clause i's first n conditions
unfoldable pub met_below : List ℕ → ℕ → ℕ → ℕ → ℕ → Bool
unfolding all_below met_at
met_below k i n a x = all_below n (λ j. met_at k i j a x)

-- and all of them
unfoldable pub met : List ℕ → ℕ → ℕ → ℕ → Bool
unfolding met_below
met k i = met_below k i (clause_length k i)

-- a bound cut at `count`: below `count` it makes no difference
pub record Cut (count bound cut : ℕ) : Type 0 where
  pub at_most : cut ≤ count
  pub same : (x : ℕ) → x < count → leb cut x ≡ leb bound x

-- x isn't from `from` to before `end`
unfoldable pub apart_from : ℕ → ℕ → ℕ → Bool
apart_from from end x = ltb x from || leb end x

-- x is from `low` to before `end`
unfoldable pub within : ℕ → ℕ → ℕ → Bool
within low end x = leb low x && ltb x end

-- of the masks below `count`, those of which the test doesn't hold keep only the clauses of `others`
pub record Struck (count : ℕ) (stays : ℕ → Bool) (others : ℕ) (was masks : List ℕ) : Type 0 where
  pub size : length masks ≡ length was
  pub members : (x b : ℕ) → x < count
      → in_set (get_or masks x 0) b ≡ (in_set (get_or was x 0) b && (stays x || in_set others b))

-- the same of the masks of each attribute: the numbers of entries, the sums, the numbers of roles, and the roles
pub record StruckAll (count : ℕ) (stays : ℕ → ℕ → Bool) (others : ℕ) (was : Asked) (s₀ : List ℕ) (asked : Asked)
    (s : List ℕ) : Type 0 where
  pub entries : Struck 7 (stays 0) others was.entries asked.entries
  pub sums : Struck count (stays 1) others s₀ s
  pub numbers : Struck 9 (stays 2) others was.numbers asked.numbers
  pub roles : Struck 8 (stays 3) others was.roles asked.roles

-- a set of clauses without i
pub record AllBut (own i others : ℕ) : Type 0 where
  pub fewer : others < own
  pub members : (b : ℕ) → in_set others b ≡ (in_set own b && not (eqb b i))

-- of the clauses `own`, the masks of attribute a have those of `rest`, and of the others those that are met
pub record Narrowed (k : List ℕ) (own rest count a : ℕ) (masks : List ℕ) : Type 0 where
  pub members : (x b : ℕ) → x < count
      → in_set (get_or masks x 0) b ≡ (in_set own b && (in_set rest b || met k b a x))

-- those of each attribute
pub record NarrowedAll (k : List ℕ) (own rest count : ℕ) (asked : Asked) (s : List ℕ) : Type 0 where
  pub entries : Narrowed k own rest 7 0 asked.entries
  pub sums : Narrowed k own rest count 1 s
  pub numbers : Narrowed k own rest 9 2 asked.numbers
  pub roles : Narrowed k own rest 8 3 asked.roles

-- the first `count` masks have the clauses `own`
pub record Filled (count own : ℕ) (was masks : List ℕ) : Type 0 where
  pub size : length masks ≡ length was
  pub each : (x : ℕ) → x < count → get_or masks x 0 ≡ own
