-- `sign_refusal` meets its contract: a chain of refusals, and what is left of it past each.
use Rattle.std.proofs.Common.{ℕ, ◌≤◌, ◌<◌, Bool, true, false, not, cond, List, ◌≡◌, sym, ap, ◌∙◌, ltb}
use borrow.Author.Tests.{le-leb, lt-leb}
use Rattle.folds.proofs.Bools.{met, passed, refused, unrefused, not_ltb}
use Rattle.reader.specs.Tables.{role_count, user_count}
use Rattle.reader.specs.Rules.{refusal_of}
use Rattle.reader.proofs.Results.{refusal_pos, handed_on}
use Rattle.weights.specs.Acting.{may_act}
use Rattle.decision.specs.Groups.{entry_count, unknown}
use Rattle.sheet.specs.Sheets.{stands_in, sign_refusal}
use Rattle.sheet.proofs.entries.sign_refusal.Goals as goal

-- 1 to 9
by_check : (base held : List ℕ) (user role : ℕ) {n : ℕ} → n ≡ refusal_of base → (n ≡ 0 → ⊥) →
    n ≡ sign_refusal base held user role
unfolding sign_refusal
by_check base held user role e h = e ∙ refused _ (λ k. h (e ∙ k))

-- what is asked with the base's numbers of users and roles, and of who may act in it, is asked of the base
unknown_is : (base : List ℕ) (user role : ℕ) {U R : ℕ} {t : Bool} → U ≡ user_count base → R ≡ role_count base →
    t ≡ unknown U R user role → t ≡ unknown (user_count base) (role_count base) user role
unknown_is base user role users roles is = rw (users, roles) at is

may_is : {a base : List ℕ} (user role : ℕ) {t : Bool} → a ≡ base → t ≡ may_act a user role → t ≡ may_act base user role
may_is user role same is = rw same at is

-- the base as it was lent, and as the accepted one that it is the bytes of
module _ (lent base held : List ℕ) (user role : ℕ) where
  abbrev answer : ℕ
  answer = sign_refusal lent held user role

  abbrev not_there : Bool
  not_there = unknown (user_count base) (role_count base) user role

  -- what is left of the chain past each refusal
  abbrev left15 : ℕ
  left15 = cond (not (ltb (entry_count held) 6)) 20 0

  abbrev left14 : ℕ
  left14 = cond (not (may_act base user role)) 15 left15

  abbrev left13 : ℕ
  left13 = cond (stands_in held user) 14 left14

  abbrev left9 : ℕ
  left9 = cond not_there 13 left13

  past9 : base ≡ lent → 0 ≡ refusal_of lent → answer ≡ left9
  unfolding sign_refusal
  past9 same ok = rw same (unrefused (sym ok))

  at13 : {t : Bool} → answer ≡ left9 → t ≡ not_there → t ≡ true → 13 ≡ answer
  at13 rest e h = met _ (sym e ∙ h) ∙ sym rest

  past13 : {t : Bool} → answer ≡ left9 → t ≡ not_there → t ≡ false → answer ≡ left13
  past13 rest e h = rest ∙ passed 13 (sym e ∙ h)

  at14 : {t : Bool} → answer ≡ left13 → t ≡ stands_in held user → t ≡ true → 14 ≡ answer
  at14 rest e h = met _ (sym e ∙ h) ∙ sym rest

  past14 : {t : Bool} → answer ≡ left13 → t ≡ stands_in held user → t ≡ false → answer ≡ left14
  past14 rest e h = rest ∙ passed 14 (sym e ∙ h)

  at15 : {t : Bool} → answer ≡ left14 → t ≡ may_act base user role → t ≡ false → 15 ≡ answer
  at15 rest e h = met _ (ap not (sym e ∙ h)) ∙ sym rest

  past15 : {t : Bool} → answer ≡ left14 → t ≡ may_act base user role → t ≡ true → answer ≡ left15
  past15 rest e h = rest ∙ passed 15 (ap not (sym e ∙ h))

  at20 : answer ≡ left15 → 6 ≤ entry_count held → 20 ≡ answer
  at20 rest h = met 0 (not_ltb (entry_count held) 6 ∙ le-leb _ _ h) ∙ sym rest

  past20 : answer ≡ left15 → entry_count held < 6 → 0 ≡ answer
  past20 rest h = sym (rest ∙ passed 20 (not_ltb (entry_count held) 6 ∙ lt-leb _ _ h))

pub returns-in_err-base : goal.returns-in_err-base
returns-in_err-base c =
    let a = c.args in
    handed_on _ _ c.from_residual.ensures.1
    ∙ by_check _ a.held.now a.user a.role c.in_err-base.ensures.number (refusal_pos _)

pub returns-then-is_unknown : goal.returns-then-is_unknown
returns-then-is_unknown c =
    let a = c.args in
    let e = c.in_ok-base.ensures in
    let rest9 = past9 _ _ a.held.now a.user a.role e.same e.number in
    let there = unknown_is _ a.user a.role c.user_count.ensures.0 c.role_count.ensures.0 c.is_unknown.ensures in
    at13 _ _ _ _ _ rest9 there c.if-is_unknown.true

pub returns-then-stands_in : goal.returns-then-stands_in
returns-then-stands_in c =
    let a = c.args in
    let e = c.in_ok-base.ensures in
    let rest9 = past9 _ _ a.held.now a.user a.role e.same e.number in
    let there = unknown_is _ a.user a.role c.user_count.ensures.0 c.role_count.ensures.0 c.is_unknown.ensures in
    let rest13 = past13 _ _ _ _ _ rest9 there c.if-is_unknown.false in
    at14 _ _ _ _ _ rest13 c.stands_in.ensures c.if-stands_in.true

pub returns-then-not-may_act : goal.returns-then-not-may_act
returns-then-not-may_act c =
    let a = c.args in
    let e = c.in_ok-base.ensures in
    let rest9 = past9 _ _ a.held.now a.user a.role e.same e.number in
    let there = unknown_is _ a.user a.role c.user_count.ensures.0 c.role_count.ensures.0 c.is_unknown.ensures in
    let rest13 = past13 _ _ _ _ _ rest9 there c.if-is_unknown.false in
    let rest14 = past14 _ _ _ _ _ rest13 c.stands_in.ensures c.if-stands_in.false in
    let may = may_is a.user a.role c.of.ensures c.may_act.ensures in
    at15 _ _ _ _ _ rest14 may c.if-not-may_act.true

pub returns-then-held-ge6 : goal.returns-then-held-ge6
returns-then-held-ge6 c =
    let a = c.args in
    let e = c.in_ok-base.ensures in
    let rest9 = past9 _ _ a.held.now a.user a.role e.same e.number in
    let there = unknown_is _ a.user a.role c.user_count.ensures.0 c.role_count.ensures.0 c.is_unknown.ensures in
    let rest13 = past13 _ _ _ _ _ rest9 there c.if-is_unknown.false in
    let rest14 = past14 _ _ _ _ _ rest13 c.stands_in.ensures c.if-stands_in.false in
    let may = may_is a.user a.role c.of.ensures c.may_act.ensures in
    let rest15 = past15 _ _ _ _ _ rest14 may c.if-not-may_act.false in
    at20 _ c.in_ok-base.base _ _ _ rest15 c.if-held-ge6.true

pub returns : goal.returns
returns c =
    let a = c.args in
    let e = c.in_ok-base.ensures in
    let rest9 = past9 _ _ a.held.now a.user a.role e.same e.number in
    let there = unknown_is _ a.user a.role c.user_count.ensures.0 c.role_count.ensures.0 c.is_unknown.ensures in
    let rest13 = past13 _ _ _ _ _ rest9 there c.if-is_unknown.false in
    let rest14 = past14 _ _ _ _ _ rest13 c.stands_in.ensures c.if-stands_in.false in
    let may = may_is a.user a.role c.of.ensures c.may_act.ensures in
    let rest15 = past15 _ _ _ _ _ rest14 may c.if-not-may_act.false in
    past20 _ c.in_ok-base.base _ _ _ rest15 c.if-held-ge6.false
