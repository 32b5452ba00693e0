-- `open` meets its contract: the head of the decision's chain, and the sheet that each refusal gives.
use Rattle.std.proofs.Common.{ℕ, ◌≤◌, ◌<◌, List, ◌≡◌, refl, ap, sym, ◌∙◌}
use borrow.Author.Tests.{lt-ltb, le-ltb, ne_eqb}
use Rattle.reader.specs.Tables.{permission_count}
use Rattle.reader.specs.Rules.{refusal_of}
use Rattle.std.specs.Prelude.{Err}
use Rattle.reader.specs.declared.refusal.Refusal.TheVariants.{Permission}
use Rattle.reader.proofs.Results.{refusal_pos}
use Rattle.sheet.proofs.Results.{unopened_with}
use Rattle.sheet.specs.declared.Sheet.{Sheet}
use Rattle.sheet.specs.Sheets.{Outcome}
use Rattle.sheet.specs.Sheets.{unsigned, open_refusal, opened_for, opened}
use Rattle.sheet.proofs.open.Goals as goal

module _ (b : List ℕ) (p : ℕ) where
  by_base : {n : ℕ} {s : Sheet} → n ≡ refusal_of b → (n ≡ 0 → ⊥) → s ≡ unsigned 255 →
      ◌≡◌ {A = Outcome} (record { refusal = n; sheet = s }) (opened b p)
  unfolding opened_for open_refusal
  by_base {n} e h k = rw (k, ← e, ne_eqb n 0 h, ne_eqb n 0 h)

  by_permission : {n : ℕ} {s : Sheet} → refusal_of b ≡ 0 → n ≡ permission_count b → n ≤ p → s ≡ unsigned 255 →
      ◌≡◌ {A = Outcome} (record { refusal = 10; sheet = s }) (opened b p)
  unfolding opened_for open_refusal
  by_permission ok e h k = rw (k, ok, ← e, le-ltb _ _ h)

  done : {n : ℕ} {s : Sheet} → refusal_of b ≡ 0 → n ≡ permission_count b → p < n → s ≡ unsigned p →
      ◌≡◌ {A = Outcome} (record { refusal = 0; sheet = s }) (opened b p)
  unfolding opened_for open_refusal
  done ok e h k = rw (k, ok, ← e, lt-ltb _ _ h)

pub returns-in_err-base : goal.returns-in_err-base
returns-in_err-base c =
    unopened_with _ _ c.from_residual.ensures.1 ∙ by_base _ _ c.in_err-base.ensures.number (refusal_pos _) refl

pub returns-then-from-permission : goal.returns-then-from-permission
returns-then-from-permission c =
    let e = c.in_ok-base.ensures in
    unopened_with Permission (Err _) c.into.ensures
    ∙ by_permission _ _ (sym e.number) (c.from.ensures ∙ c.permission_count.ensures ∙ ap permission_count e.same)
    c.if-from-permission.true refl

pub returns : goal.returns
returns c =
    let e = c.in_ok-base.ensures in
    done _ _ (sym e.number) (c.from.ensures ∙ c.permission_count.ensures ∙ ap permission_count e.same)
    c.if-from-permission.false c.unsigned.ensures
