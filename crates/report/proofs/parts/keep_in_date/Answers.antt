-- A user that is there is left without a role where the days don't include the date; one that isn't has none either
-- way.
use Rattle.std.proofs.Common.{ℕ, ◌≤◌, ◌<◌, cond, List, ◌++◌, ◌≡◌, sym, ap, ◌∙◌}
use Rattle.std.proofs.Common.{length, get_or, take, drop, arith}
use Rattle.std.proofs.lemmas.List.{get_or-take, length-take}
use Rattle.folds.specs.Sets.{set_below}
use Rattle.folds.proofs.Parts.{each_place, length_end}
use Rattle.reader.specs.Tables.{users, user_count, table_of}
use Rattle.reader.specs.Days.{out_of_days}
use Rattle.weights.specs.declared.Context.{Context}
use Rattle.weights.specs.Acting.{may_act}
use Rattle.weights.specs.Setting.{ActingSets}
use Rattle.weights.proofs.MayAct.{idle}
use Rattle.decision.specs.Decision.{out_of_date}
use Rattle.report.specs.Parts.{SetsInDate}
use Rattle.report.proofs.InDate.{idle_in_date}
use Rattle.report.proofs.parts.keep_in_date.Goals as goal

-- what a turn makes of a user's set
abbrev kept : List ℕ → ℕ → ℕ → ℕ → ℕ
kept us date u set = cond (out_of_days us date u) 0 set

module _ (b : List ℕ) (at : Context) (sets items : List ℕ) {us : List ℕ} {n : ℕ} (count : n ≡ user_count b)
    (table : us ≡ table_of b users) (are : ActingSets b sets) (few : n ≤ 24) (size : length items ≡ n)
    (made : (u : ℕ) → u < n → get_or items u 0 ≡ kept us at.date u (get_or (take n sets) u 0)) where
  abbrev Kept : ℕ → ℕ → Type 0
  Kept u set = set ≡ cond (out_of_date b at u) 0 (set_below 8 (may_act b u))

  there : (u : ℕ) → u < 24 → u < n → Kept u (get_or items u 0)
  there u l h =
      made u h ∙ ap (kept us at.date u) (get_or-take n sets u 0 h ∙ are.user u l)
      ∙ ap (λ v. kept v at.date u (set_below 8 (may_act b u))) table

  past : (u : ℕ) → u < 24 → n ≤ u → Kept u (get_or sets u 0)
  past u l h = let out = rw count at h in are.user u l ∙ idle b u out ∙ sym (idle_in_date b at u out)

  kept_in_date : SetsInDate b at (items ++ drop n sets)
  kept_in_date = record {
    size = length_end sets items n size (omega (arith, are.size)) ∙ are.size;
    user = λ u l. each_place sets items n u (Kept u) size (there u l) (past u l);
  }

pub returns : goal.returns
returns c =
    let (count, few) = c.user_count.ensures in
    let n = c.user_count.result in
    let taken = length-take n c.args.sets.now in
    let whole : c.loop-u.u ≡ n = omega arith in
    kept_in_date _ c.args.at c.args.sets.now c.loop-u.set-items count c.part-users.ensures.table c.requires few
    (omega arith) (λ u l. c.loop-u.invariant.done u (omega arith))
