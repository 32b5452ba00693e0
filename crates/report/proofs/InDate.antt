-- The sets of roles of the users whose days include a date: who is in them, and who is in none.
use Prim.Native.Nat.{ℕ, ◌≤◌}
use mathlib.Core.Bool.{Bool, true, false, not, ◌&&◌, cond, and-false, and-true}
use mathlib.Core.Path.{◌≡◌, refl, sym, ◌∙◌}
use mathlib.Core.List.{List}
use Rattle.folds.specs.Sets.{in_set, set_below}
use Rattle.folds.proofs.Sets.{in_none}
use Rattle.reader.specs.Tables.{user_count}
use Rattle.weights.specs.declared.Context.{Context}
use Rattle.weights.specs.Acting.{may_act}
use Rattle.weights.proofs.MayAct.{idle}
use Rattle.decision.specs.Decision.{out_of_date}
use mathlib.Core.Logic.{⊎_elim}
use native.Mathlib.Omega.{arith}
use borrow.Author.Tests.{ltb-true, ltb-false}
use lib.Dec.{ltb}
use lib.ListN.{get_or, get_or-eq_default}
use Rattle.folds.proofs.Bools.{met_or_not}
use Rattle.report.specs.Parts.{SetsInDate}

-- a role is in the set of a user in date exactly where it was in the set before
pub in_set_in_date : (out : Bool) (s r : ℕ) → in_set (cond out 0 s) r ≡ (in_set s r && not out)
in_set_in_date true s r = in_none r ∙ sym (and-false (in_set s r))
in_set_in_date false s r = sym (and-true (in_set s r))

-- the sets of users that aren't there are empty, in date or not
pub idle_in_date : (b : List ℕ) (at : Context) (u : ℕ) → user_count b ≤ u →
    cond (out_of_date b at u) 0 (set_below 8 (may_act b u)) ≡ 0
idle_in_date b at u past = rw (idle b u past) (by (out_of_date b at u))
  where
    by : (out : Bool) → cond {A = ℕ} out 0 0 ≡ 0
    by true = refl
    by false = refl

-- users that aren't there have no set
pub idle_past : {b sets : List ℕ} {at : Context} → SetsInDate b at sets → {n : ℕ} → n ≡ user_count b →
    (u : ℕ) → n ≤ u → get_or sets u 0 ≡ 0
idle_past {b} {sets} {at} acting e u past =
    ⊎_elim
    (λ t. acting.user u (ltb-true u 24 t) ∙ idle_in_date b at u (rw e at past))
    (λ t. get_or-eq_default sets 0 (omega (arith, ltb-false u 24 t, acting.size)))
    (met_or_not (ltb u 24))
