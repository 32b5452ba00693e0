-- The sets made are those of the users that are there; the others keep none.
use Rattle.std.proofs.Common.{ℕ, ◌≤◌, ◌<◌, List, ◌++◌, ◌≡◌, sym, ◌∙◌}
use Rattle.std.proofs.Common.{length, get_or, drop, arith}
use lib.ListN.{replicate}
use Rattle.std.proofs.lemmas.List.{length-take-le}
use Rattle.folds.specs.Sets.{set_below}
use Rattle.folds.proofs.Lists.{zero_at}
use Rattle.folds.proofs.Parts.{each_place, length_end}
use Rattle.reader.specs.Tables.{user_count}
use Rattle.weights.specs.Acting.{may_act}
use Rattle.weights.specs.Setting.{ActingSets}
use Rattle.weights.proofs.MayAct.{idle}
use Rattle.weights.proofs.acting.Acting.sets.Goals as goal

abbrev zeros : List ℕ
zeros = replicate 24 0

module _ (b items : List ℕ) (n : ℕ) (count : n ≡ user_count b) (few : n ≤ 24) (size : length items ≡ n)
    (made : (u : ℕ) → u < n → get_or items u 0 ≡ set_below 8 (may_act b u)) where
  all_made : ActingSets b (items ++ drop n zeros)
  all_made = record {
    size = length_end zeros items n size few;
    user = λ u l. each_place zeros items n u (λ set. set ≡ set_below 8 (may_act b u)) size (made u) (none u);
  }
    where
      none : (u : ℕ) → n ≤ u → get_or zeros u 0 ≡ set_below 8 (may_act b u)
      none u past = zero_at 24 u ∙ sym (idle b u (rw count at past))

pub slice_bounds-set-items-end : goal.slice_bounds-set-items-end
slice_bounds-set-items-end c = sym (length-take-le _ zeros c.user_count.ensures.1)

pub returns : goal.returns
returns c =
    let (count, few) = c.user_count.ensures in
    let n = c.user_count.result in
    let size : length c.loop-u.set-items ≡ n = c.loop-u.invariant.size ∙ length-take-le n zeros few in
    let whole : c.loop-u.u ≡ n = omega (arith, size) in
    all_made _ c.loop-u.set-items n count few size (λ u l. c.loop-u.invariant.done u (rw whole l))
