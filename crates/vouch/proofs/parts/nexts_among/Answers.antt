-- `nexts_among` meets its contract: the others of a set are in it or are left as they were.
use Rattle.std.proofs.Common.{ℕ, ◌≤◌, Bool, true, false, cond, List, ◌≡◌, get_or, refl, ◌∙◌, arith}
use mathlib.Core.Logic.{⊎_elim}
use Rattle.std.proofs.Math.ListN.{get_or-eq_default}
use borrow.Author.Tests.{ltb-true, ltb-false}
use lib.Dec.{ltb}
use Rattle.folds.proofs.Bools.{met_or_not}
use Rattle.reader.specs.Tables.{user_count}
use Rattle.weights.specs.declared.Context.{Context}
use Rattle.report.specs.Parts.{SetsInDate}
use Rattle.report.proofs.InDate.{idle_past}
use Rattle.vouch.specs.Beside.{OthersOf}
use Rattle.vouch.proofs.parts.nexts_among.Goals as goal

-- who has no set has none among the others
none_kept : (keep : Bool) {s : ℕ} → s ≡ 0 → cond keep s 0 ≡ 0
none_kept true e = e
none_kept false e = refl

idle_others : {b sets others : List ℕ} {at : Context} {vouching q n : ℕ} → SetsInDate b at sets →
    OthersOf sets vouching q others → n ≡ user_count b → (u : ℕ) → n ≤ u → get_or others u 0 ≡ 0
idle_others {others = others} acting of e u past = ⊎_elim
    (λ t. of.user u (ltb-true u 24 t) ∙ none_kept _ (idle_past acting e u past))
    (λ t. get_or-eq_default others 0 {n = u} (omega (arith, ltb-false u 24 t, of.size)))
    (met_or_not (ltb u 24))

pub next_ends-requires : goal.next_ends-requires
next_ends-requires c =
    let (count, few) = c.user_count.ensures in
    (few, idle_others c.requires.1 c.others-others.ensures count)
