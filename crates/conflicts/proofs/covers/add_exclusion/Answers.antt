-- `add_exclusion` meets its contract: an exclusion of permissions adds the two to each other's sets.
use Rattle.std.proofs.Common.{ℕ, ◌≡◌, ◌<◌, Bool, false, ◌&&◌, ◌||◌, List, length, eqb, sym, ◌∙◌, arith}
use mathlib.Core.Bool.{or-false, and_comm, or_assoc}
use borrow.Author.Tests.{eq-eqb, eqb-true}
use Rattle.reader.specs.Tables.{exclusions, record_count}
use Rattle.reader.specs.Rules.{exclusions_bad}
use Rattle.reader.specs.Fields.{exclusion_kind, exclusion_second}
use Rattle.conflicts.specs.declared.exclusions.Exclusion.TheVariants.{Roles, Permissions}
use Rattle.conflicts.specs.Conflicts.{excludes}
use Rattle.conflicts.specs.Exclusions.{exclusion_of}
use Rattle.conflicts.proofs.Excluding.{says_roles, says_permissions, kind_1}
use Rattle.conflicts.proofs.Tables.{numbers_small}
use Rattle.conflicts.proofs.covers.add_exclusion.Goals as goal

module _ (x : List ℕ) where
  -- its two permissions
  module _ {p q : ℕ} (says : exclusion_of x 0 ≡ Permissions p q) (size : length x ≡ 3)
      (fine : exclusions_bad 8 16 x ≡ false) where
    there : 0 < record_count exclusions x
    there = omega (arith, size)

    one : exclusion_kind x 0 ≡ 1
    one = kind_1 x 0 8 16 fine there (says_permissions x 0 says).0

    small : (p < 16) × (q < 16)
    small =
        let (_, first, second) = says_permissions x 0 says in
        rw (first, second) (numbers_small x 0 fine there (says_permissions x 0 says).0)

    -- t is in the set of s before the record, between the two pairs, and now
    both_pairs : (s t : ℕ) (was : Bool) {between now : Bool} → between ≡ (was || (eqb p s && eqb q t)) →
        now ≡ (between || (eqb q s && eqb p t)) → now ≡ (was || excludes x s t 0)
    unfolding excludes
    both_pairs s t was before after =
        let (_, first, second) = says_permissions x 0 says in
        rw (after, before, first, second, eq-eqb _ _ one, or_assoc was, and_comm (eqb (exclusion_second x 0) s))

  no_pair : {r u : ℕ} → exclusion_of x 0 ≡ Roles r u → (s t : ℕ) (was : Bool) → was ≡ (was || excludes x s t 0)
  unfolding excludes
  no_pair says s t was =
      let kind = (says_roles x 0 says).0 in
      let none = eqb-true (exclusion_kind x 0) 0 kind in
      rw (none, or-false was)

pub add_pair-requires : goal.add_pair-requires
add_pair-requires c = small c.args.exclusion.now (sym c.read.ensures ∙ c.in-Permissions.is) c.requires.0 c.requires.1

pub add_pair-requires-in-Permissions : goal.add_pair-requires-in-Permissions
add_pair-requires-in-Permissions c =
    let says = sym c.read.ensures ∙ c.in-Permissions.is in
    let (p, q) = small c.args.exclusion.now says c.requires.0 c.requires.1 in
    (q, p)

pub returns-in-Permissions : goal.returns-in-Permissions
returns-in-Permissions c =
    λ s t.
    both_pairs c.args.exclusion.now (sym c.read.ensures ∙ c.in-Permissions.is) c.requires.0 c.requires.1 s t _
    (c.add_pair.ensures s t) (c.add_pair-in-Permissions.ensures s t)

pub returns-in_default : goal.returns-in_default
returns-in_default c = λ s t. no_pair c.args.exclusion.now (sym c.read.ensures ∙ c.in_default.is) s t _
