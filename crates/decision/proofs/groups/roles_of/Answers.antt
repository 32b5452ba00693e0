-- `roles_of` meets its contract: the fold adds each entry's role to the set, and each is below 8.
use Rattle.std.proofs.Common.{ℕ, List, ◌≡◌, ◌<◌, ◌/◌, sym, ◌∙◌, length, rules, arith}
use borrow.Author.Tests.{ne_eqb}
use lib.Dec.{eqb}
use Rattle.folds.specs.Below.{any_below}
use Rattle.folds.specs.Sets.{in_set}
use Rattle.folds.proofs.Folds.{fold_adds}
use Rattle.folds.proofs.Sets.{in_whole, same_members}
use Rattle.folds.proofs.Tests.{any_each}
use Rattle.decision.specs.Groups.{entry_role, acted_in, roles_of}
use Rattle.decision.proofs.groups.roles_of.Goals as goal

all : (g : List ℕ) (set : ℕ) → ((i : ℕ) → i < length g / 2 → entry_role g i < 8) →
    ((r : ℕ) → in_set set r ≡ any_below (length g / 2) (λ i. eqb (entry_role g i) r)) → set ≡ roles_of g
unfolding roles_of acted_in
all g set low has =
    same_members set (roles_of g)
    (λ r. has r ∙ sym (in_whole (acted_in g) 8
    (λ k past. any_each _ (length g / 2) (λ i l. let h = low i l in ne_eqb (entry_role g i) k (λ e. omega arith))) r))

pub returns : goal.returns
returns c =
    let g = c.args.g.now in
    all g _ c.requires
    (fold_adds (entry_role g) (length g / 2) _ (cc) (λ a x b q k. search rules) c.fold.ensures.ran)
