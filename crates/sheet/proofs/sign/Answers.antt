-- `sign` meets its contract: the refusal by what the sheet holds, and the sheet with the entry where there is none.
use Rattle.std.proofs.Common.{ℕ, List, ◌≡◌, ap, sym, ◌∙◌, arith}
use native.Mathlib.Nat.{lt_of_lt_of_le}
use Rattle.reader.proofs.Frame.{roles_range, users_le}
use Rattle.reader.proofs.Accepted.{accepted_frame}
use Rattle.reader.proofs.Results.{refusal_pos}
use Rattle.sheet.proofs.Results.{refused_with}
use Rattle.sheet.specs.declared.Sheet.{Sheet}
use Rattle.sheet.specs.Sheets.{held_on, sign_refusal}
use Rattle.sheet.proofs.Passing.{Passes, sign_passes, signed_refused, signed_done}
use Rattle.sheet.proofs.Holding.{room_claimed}
use Rattle.sheet.proofs.sign.Goals as goal

-- the refusal, by what the sheet holds
module _ (b : List ℕ) (s : Sheet) (u r : ℕ) {n : ℕ} {held : List ℕ} (are : held ≡ held_on s)
    (e : n ≡ sign_refusal b held u r) where
  of_held : n ≡ sign_refusal b (held_on s) u r
  of_held = e ∙ ap (λ (g : List ℕ). sign_refusal b g u r) are

passing : (b : List ℕ) (s : Sheet) (u r : ℕ) {held : List ℕ} → held ≡ held_on s → 0 ≡ sign_refusal b held u r →
    Passes b (held_on s) u r
passing b s u r are e = sign_passes _ _ _ _ (sym (of_held b s u r are e))

pub returns-in_err-sign_refusal : goal.returns-in_err-sign_refusal
returns-in_err-sign_refusal c =
    let a = c.args in
    let is = of_held a.base.now a.s a.user a.role c.held.ensures.0 c.in_err-sign_refusal.ensures in
    refused_with _ _ _ c.from_residual.ensures.1 ∙ signed_refused _ a.s _ _ is (refusal_pos _)

pub overflow_cast-user : goal.overflow_cast-user
overflow_cast-user c =
    let a = c.args in
    let p = passing a.base.now a.s a.user a.role c.held.ensures.0 c.in_ok-sign_refusal.ensures in
    let few = lt_of_lt_of_le p.user (users_le _ (accepted_frame _ p.ok)) in
    omega arith

pub overflow_cast-role : goal.overflow_cast-role
overflow_cast-role c =
    let a = c.args in
    let p = passing a.base.now a.s a.user a.role c.held.ensures.0 c.in_ok-sign_refusal.ensures in
    let few = lt_of_lt_of_le p.role (roles_range _ (accepted_frame _ p.ok)).1 in
    omega arith

pub add-requires : goal.add-requires
add-requires c =
    let a = c.args in
    let p = passing a.base.now a.s a.user a.role c.held.ensures.0 c.in_ok-sign_refusal.ensures in
    room_claimed _ _ c.held.ensures.1 p.room

pub returns : goal.returns
returns c =
    let a = c.args in
    let is = of_held a.base.now a.s a.user a.role c.held.ensures.0 c.in_ok-sign_refusal.ensures in
    signed_done _ a.s _ _ (sym is) c.add.ensures
