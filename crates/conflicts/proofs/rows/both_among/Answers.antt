-- `both_among` meets its contract: of a record of roles both are tested in turn.
use Rattle.std.proofs.Common.{ℕ, ◌≡◌, ◌+◌, ◌-◌, ◌*◌, ◌<◌, false, ◌&&◌, List, take, drop, sym, ◌∙◌, arith}
use Rattle.folds.specs.Sets.{in_set}
use Rattle.reader.specs.Tables.{exclusions, record_count}
use Rattle.reader.specs.Rules.{exclusions_bad}
use Rattle.conflicts.specs.declared.exclusions.Exclusion.{Exclusion}
use Rattle.conflicts.specs.declared.exclusions.Exclusion.TheVariants.{Roles, Permissions}
use Rattle.conflicts.specs.Conflicts.{both_among}
use Rattle.conflicts.specs.Exclusions.{exclusion_of}
use Rattle.conflicts.proofs.Excluding.{record_cut, says_same, says_roles, says_permissions}
use Rattle.conflicts.proofs.Tables.{numbers_small}
use Rattle.conflicts.proofs.rows.both_among.Goals as goal
use Rattle.conflicts.proofs.rows.both_among.Goals.{After-read}

-- the bytes cut out of the table x for record e
abbrev cut : List ℕ → ℕ → List ℕ
cut x e = take (3 * e + 3 - 3 * e) (drop (3 * e) x)

-- what is known once they are read: the record is there, and `said` is what it says
record Read (x : List ℕ) (e : ℕ) (said : Exclusion) : Type 0 where
  fine : exclusions_bad 8 16 x ≡ false
  there : e < record_count exclusions x
  says : said ≡ exclusion_of x e

module _ {x : List ℕ} {e : ℕ} where
  module _ {r s : ℕ} (d : Read x e (Roles r s)) where
    low : (r < 32) × (s < 32)
    low =
        let (kind, first, second) = says_roles x e (sym d.says) in
        let (one, other) = numbers_small x e d.fine d.there kind in
        (omega (arith, first), omega (arith, second))

    both : (roles : ℕ) → (in_set roles r && in_set roles s) ≡ both_among (in_set roles) x e
    unfolding both_among
    both roles = let (kind, first, second) = says_roles x e (sym d.says) in rw (kind, first, second)

  none : {p q : ℕ} → Read x e (Permissions p q) → (roles : ℕ) → false ≡ both_among (in_set roles) x e
  unfolding both_among
  none d roles = let kind = (says_permissions x e (sym d.says)).0 in rw kind

read : (c : After-read) → Read c.args.x.now c.args.e c.read.result
read c =
    let e = c.args.e in
    let there = c.requires.1 in
    record {
      fine = c.requires.0;
      there = there;
      says = c.read.ensures ∙ says_same (record_cut c.args.x.now e (3 * e + 3 - 3 * e) (omega arith) (omega arith));
    }

pub in_set-requires : goal.in_set-requires
in_set-requires c = (low (rw c.in-Roles.is at (read (goal.at.in_set-requires c).After-read))).0

pub in_set-requires-then-in_set : goal.in_set-requires-then-in_set
in_set-requires-then-in_set c =
    (low (rw c.in-Roles.is at (read (goal.at.in_set-requires-then-in_set c).After-read))).1

pub returns-then-in_set : goal.returns-then-in_set
returns-then-in_set c =
    let all = both (rw c.in-Roles.is at (read (goal.at.returns-then-in_set c).After-read)) c.args.roles in
    rw (← c.in_set.ensures, c.if-in_set.true, ← c.in_set-then-in_set.ensures) at all

pub returns-else-in_set : goal.returns-else-in_set
returns-else-in_set c =
    let all = both (rw c.in-Roles.is at (read (goal.at.returns-else-in_set c).After-read)) c.args.roles in
    c.if-in_set.false ∙ rw (← c.in_set.ensures, c.if-in_set.false) at all

pub returns-in-Permissions : goal.returns-in-Permissions
returns-in-Permissions c =
    none (rw c.in-Permissions.is at (read (goal.at.returns-in-Permissions c).After-read)) c.args.roles
