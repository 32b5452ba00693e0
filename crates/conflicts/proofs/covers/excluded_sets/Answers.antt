-- `excluded_sets` meets its contract: each turn adds one exclusion record.
use Rattle.std.proofs.Common.{◌∙◌, subst}
use Rattle.conflicts.proofs.Excluding.{AddedYet, none_added, one_added, all_added, next_record, next_within}
use Rattle.conflicts.proofs.Excluding.{fine_alone}
use Rattle.conflicts.proofs.covers.excluded_sets.Goals as goal

pub loop-exclusion-init : goal.loop-exclusion-init
loop-exclusion-init c =
    let items = c.chunks_exact-exclusion-items.ensures in
    let given = c.into_iter-exclusion-iterator.ensures.into_iter_gives in
    (subst (AddedYet c.args.x.now _) (cc) (none_added c.args.x.now), cc)

pub add_exclusion-requires : goal.add_exclusion-requires
add_exclusion-requires c =
    let (_, (are, size), _) = c.in-Some.ensures.steps in
    let (yet, three) = c.loop-exclusion.invariant in
    let of = next_record yet _ _ are (size ∙ three) in
    let l = next_within yet _ _ are (size ∙ three) in
    (size ∙ three, fine_alone of 8 16 (size ∙ three) l c.requires)

pub loop-exclusion-preserved : goal.loop-exclusion-preserved
loop-exclusion-preserved c =
    let (same, (are, size), _) = c.in-Some.ensures.steps in
    let (yet, three) = c.loop-exclusion.invariant in
    (one_added yet _ _ are (size ∙ three) c.add_exclusion.ensures, same ∙ three)

pub returns : goal.returns
returns c =
    let (_, (short, _), _) = c.in-None.ensures.steps in
    let (yet, three) = c.loop-exclusion.invariant in
    all_added yet (rw three at short)
