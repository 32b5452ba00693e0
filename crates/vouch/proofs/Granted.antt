-- The law of granting whole, of the vouching decision, and what a report asks of it.
use Prim.Native.Nat.{ℕ, ◌<◌}
use mathlib.Core.Bool.{true, false}
use mathlib.Core.List.{List, []}
use mathlib.Core.Logic.{◌↔◌, ⊎_elim}
use mathlib.Core.Path.{◌≡◌, ◌∙◌}
use native.Mathlib.Nat.{suc-ne-zero}
use borrow.Author.Tests.{eqb-true, eq-eqb, lt-ltb}
use lib.Dec.{eqb}
use Rattle.folds.proofs.Bools.{met_or_not, unrefused}
use Rattle.reader.specs.Tables.{clauses, role_count, permission_count, table_of, user_count}
use Rattle.reader.specs.Rules.{refusal_of}
use Rattle.weights.specs.declared.Context.{Context}
use Rattle.weights.specs.Contexts.{out_of_range}
use Rattle.weights.specs.Weights.{weight}
use Rattle.decision.specs.Conditions.{permission_holds}
use Rattle.decision.specs.Decision.{eligible, out_of_date, asking}
use Rattle.decision.specs.Groups.{entry_user}
use Rattle.decision.proofs.Granting.{head_passed}
use Rattle.report.specs.Smallest.{Deciding}
use Rattle.report.proofs.Demand.{Reportable}
use Rattle.report.proofs.Least.{OfBytes, granted_whole, granted_byte, counts_bytes}
use Rattle.report.proofs.Users.{users_granted}
use Rattle.vouch.specs.Vouching.{vouches}
use Rattle.vouch.specs.Decision.{Lent, group_vouched, decision_vouched}
use Rattle.vouch.specs.Granting.{GrantedVouched}
use Rattle.vouch.specs.Report.{led, led_vouched}
use Rattle.vouch.proofs.Granting.{vouched_granting}
use Rattle.vouch.proofs.Stating.{stated_zero, stated_left}

-- the base grants the group the permission in the context, with a register and a threshold
abbrev pub GrantedWith : List ℕ → ℕ → List ℕ → Context → ℕ → List ℕ → Type 0
GrantedWith register threshold b at p g =
    GrantedVouched (user_count b) (role_count b) (eligible b at p) (out_of_date b at)
    (vouches register threshold p at.date) (λ r. weight [] b at r p) (permission_holds (table_of b clauses) p) g

-- and is asked about a permission that is there, in a context in range
pub record Askable (b : List ℕ) (at : Context) (p : ℕ) : Type 0 where
  pub there : p < permission_count b
  pub in_range : out_of_range at ≡ false

module _ (register : List ℕ) (threshold : ℕ) (b : List ℕ) (at : Context) (p : ℕ) where
  -- 10 and 11 apply to none that is granted
  askable_of : refusal_of b ≡ 0 → (left : ℕ) → asking b at p left ≡ 0 → Askable b at p × (left ≡ 0)
  askable_of ok left h =
      let (_, there, in_range, none) = head_passed b at p left (unrefused ok ∙ h) in
      (record { there = there; in_range = in_range }, none)

  askable_left : Askable b at p → {left : ℕ} → left ≡ 0 → asking b at p left ≡ 0
  askable_left asked z = rw (lt-ltb _ _ asked.there, asked.in_range) z

  -- the decider grants exactly these groups, of every list of numbers
  pub granted_with : (g : List ℕ) → (decision_vouched register threshold b at p g ≡ 0) ↔
      (Lent register threshold b × Askable b at p × GrantedWith register threshold b at p g)
  unfolding decision_vouched group_vouched
  granted_with g = (
    λ h.
        let (d, past27) = stated_zero register threshold b _ h in
        let (asked, past11) = askable_of d.accepted _ past27 in
        (d, asked, (vouched_granting _ _ _ _ _ _ _ g).0 past11),
    λ (d, asked, w).
        stated_left register threshold b d _
        ∙ askable_left asked ((vouched_granting _ _ _ _ _ _ _ g).1 w),
  )

-- the decision, asked about groups that q leads, grants those of them that it grants
pub led_granted : (q : ℕ) (decision : Deciding) (p : ℕ) (g : List ℕ) →
    (led q decision p g ≡ 0) ↔ ((entry_user g 0 ≡ q) × (decision p g ≡ 0))
led_granted q decision p g = (
  λ h. ⊎_elim (λ t. (eqb-true _ _ t, granted t h)) (λ t. absurd (other t h)) (met_or_not (eqb (entry_user g 0) q)),
  λ (first, h). rw (eq-eqb _ _ first) h,
)
  where
    granted : eqb (entry_user g 0) q ≡ true → led q decision p g ≡ 0 → decision p g ≡ 0
    granted t h = rw t at h

    other : eqb (entry_user g 0) q ≡ false → led q decision p g ≡ 0 → ⊥
    other t h = suc-ne-zero 0 (rw t at h)

module _ (register : List ℕ) (threshold : ℕ) (b : List ℕ) (at : Context) (q : ℕ) where
  -- the vouching decision grants only groups of 1 to 6 whole entries of bytes, of as many users as entries
  led_with : (p : ℕ) (t : List ℕ) → led_vouched register threshold b at q p t ≡ 0 →
      Lent register threshold b × GrantedWith register threshold b at p t
  led_with p t h =
      let (_, granted) = (led_granted q (decision_vouched register threshold b at) p t).0 h in
      let (d, _, w) = (granted_with register threshold b at p t).0 granted in
      (d, w)

  pub led_bytes : (p : ℕ) → OfBytes (λ g. eqb (led_vouched register threshold b at q p g) 0)
  led_bytes p = record {
    whole = λ t h. granted_whole t (led_with p t (eqb-true _ _ h)).1.granted;
    byte = λ t h.
        let (d, w) = led_with p t (eqb-true _ _ h) in
        let (users, roles) = counts_bytes b d.accepted in
        granted_byte t w.granted users roles;
  }

  pub led_reportable : Reportable (led_vouched register threshold b at q)
  led_reportable = record {
    of_bytes = led_bytes;
    users_are = λ p g h.
        let (d, w) = led_with p g h in
        users_granted g w.granted (counts_bytes b d.accepted).0;
  }
