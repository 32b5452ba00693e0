-- What asking answers of a sheet for permission 255 and of an unsigned one.
use Prim.Native.Nat.{ℕ, ◌<◌}
use mathlib.Core.Bool.{false}
use mathlib.Core.Path.{◌≡◌}
use mathlib.Core.List.{List}
use native.Mathlib.Omega.{arith}
use borrow.Author.Tests.{lt-ltb, le-ltb}
use Rattle.reader.specs.Tables.{permission_count}
use Rattle.reader.specs.Rules.{refusal_of}
use Rattle.reader.proofs.Frame.{permissions_le}
use Rattle.reader.proofs.Accepted.{accepted_frame}
use Rattle.weights.specs.declared.Context.{Context}
use Rattle.weights.specs.Contexts.{out_of_range}
use Rattle.decision.specs.Groups.{length_refused, members_refusal, group_refusal}
use Rattle.decision.specs.Decision.{group_decision, decision_by}
use Rattle.sheet.specs.declared.Sheet.{Sheet}
use Rattle.sheet.specs.Sheets.{asked}

module _ (b : List ℕ) (s : Sheet) (at : Context) where
  -- no base has permission 255: 10, after 1 to 9
  pub asked_255 : s.permission ≡ 255 → refusal_of b ≡ 0 → asked b s at ≡ 10
  unfolding decision_by
  asked_255 e ok =
      let few = permissions_le b (accepted_frame b ok) in
      rw (e, ok, le-ltb 255 (permission_count b) (omega arith))

  -- an unsigned sheet is no group: 12, after 1 to 11
  pub asked_unsigned : s.count ≡ 0 → refusal_of b ≡ 0 → s.permission < permission_count b → out_of_range at ≡ false →
      asked b s at ≡ 12
  unfolding decision_by group_decision group_refusal members_refusal length_refused
  asked_unsigned none ok there fit = rw (none, ok, lt-ltb _ _ there, fit)
