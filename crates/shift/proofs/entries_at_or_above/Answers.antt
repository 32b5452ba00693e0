-- `entries_at_or_above` meets its contract: of the numbers of at most 6 entries those in such roles are counted.
use Rattle.std.proofs.Common.{ℕ, Bool, List, ◌≡◌, ◌≤◌, ◌/◌, ap, ◌∙◌, length, rules, tests, arith}
use Rattle.std.proofs.lemmas.Iterator.{YieldsList-from_range}
use Rattle.std.proofs.lemmas.Iterator.Consumers.{YieldsList-from_filter, count_from_yields_List}
use Rattle.folds.specs.Below.{count_below}
use Rattle.folds.proofs.Chains.{count_chain}
use Rattle.folds.proofs.Numbers.{count_le}
use Rattle.decision.specs.Groups.{entry_role}
use Rattle.shift.specs.Counting.{at_or_above, entries_at_or_above}
use Rattle.shift.proofs.entries_at_or_above.Goals as goal

-- entry k acts in such a role
abbrev counts : List ℕ → ℕ → List ℕ → ℕ → Bool
counts juniors q g k = at_or_above juniors q (entry_role g k)

at_most : (p : ℕ → Bool) (n : ℕ) {r : ℕ} → r ≡ count_below n p → n ≤ 6 → r ≤ 6
at_most p n is few = let most = count_le p n in omega arith

pub returns : goal.returns
unfolding entries_at_or_above
returns c =
    let g = c.bytes-group.result.now in
    let few = c.bytes-group.ensures.seated.few in
    let same = c.bytes-group.ensures.bytes in
    let is = count_from_yields_List _ _ c.count.ensures.ran
    (YieldsList-from_filter _ (counts c.args.juniors c.args.role g)
    (YieldsList-from_range 0 (length g / 2) (length g / 2) (cc) (omega arith))
    c.filter.ensures.closure (λ x r q k. search (rules, tests)))
    ∙ count_chain (counts c.args.juniors c.args.role g) (length g / 2) in (
      is ∙ ap (entries_at_or_above c.args.juniors c.args.role) same,
      at_most (counts c.args.juniors c.args.role g) (length g / 2) is (rw same (omega arith)),
    )
