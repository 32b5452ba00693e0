-- The laws of trust: where everybody else trusts the requester to the full, vouching changes nothing; a higher
-- threshold grants no group that a lower one doesn't, so a number stays, rises or becomes 0.
use Prim.Native.Nat.{ℕ, ◌<◌, ◌≤◌}
use mathlib.Core.Bool.{true, false}
use mathlib.Core.List.{List, []}
use mathlib.Core.Logic.{◌↔◌, ◌⊎◌, inl, inr, ⊎_elim}
use mathlib.Core.Path.{◌≡◌, sym, ◌∙◌}
use native.Mathlib.Omega.{arith}
use native.Mathlib.Nat.{eq-zero-or-pos}
use borrow.Author.Tests.{eqb-true, eq-eqb, ltb-false, le-ltb, leb-true, le-leb}
use lib.Dec.{leb, ltb, eqb}
use Rattle.folds.proofs.Bools.{and_left, and_right, and_both, or_right, or_neither}
use Rattle.folds.proofs.Tests.{any_some, any_found}
use Rattle.reader.specs.Tables.{user_count, permission_count}
use Rattle.weights.specs.declared.Context.{Context}
use Rattle.decision.specs.Groups.{entry_user}
use Rattle.decision.specs.Decision.{decision_of}
use Rattle.decision.proofs.Granting.{granted_by}
use Rattle.report.specs.Smallest.{smallest_by}
use Rattle.report.proofs.Least.{smallest_wider}
use Rattle.vouch.specs.Register.{statement_count, issuer, requester, stated_permission, trust}
use Rattle.vouch.specs.Register.{register_refused, threshold_refused}
use Rattle.vouch.specs.Vouching.{states, vouches}
use Rattle.vouch.specs.Decision.{decision_vouched}
use Rattle.vouch.specs.Report.{led_vouched}
use Rattle.vouch.proofs.Granted.{granted_with, led_granted, led_bytes}

-- a statement that counts by a higher threshold counts by a lower one
states_lower : (register : List ℕ) (low high p date u q i : ℕ) → low ≤ high →
    states register high p date u q i ≡ true → states register low p date u q i ≡ true
states_lower register low high p date u q i less h =
    let past_issuer = and_right (eqb (issuer register i) u) _ h in
    let past_requester = and_right (eqb (requester register i) q) _ past_issuer in
    let valid_high = and_right (eqb (stated_permission register i) p) _ past_requester in
    let enough = leb-true _ _ (and_left (leb high (trust register i)) _ valid_high) in
    let days = and_right (leb high (trust register i)) _ valid_high in
    and_both (and_left (eqb (issuer register i) u) _ h)
    (and_both (and_left (eqb (requester register i) q) _ past_issuer)
    (and_both (and_left (eqb (stated_permission register i) p) _ past_requester)
    (and_both (le-leb low (trust register i) (omega (arith, enough))) days)))

-- so does who vouches
vouches_lower : (register : List ℕ) (low high p date u q : ℕ) → low ≤ high →
    vouches register high p date u q ≡ true → vouches register low p date u q ≡ true
unfolding vouches
vouches_lower register low high p date u q less h =
    let (i, l, says) = any_some (states register high p date u q) (statement_count register) h in
    any_found (states register low p date u q) (statement_count register) i l
    (states_lower register low high p date u q i less says)

module _ (register : List ℕ) (b : List ℕ) (at : Context) (q : ℕ) where
  -- each other user has a valid statement of trust 5 to the requester for permission p
  abbrev pub TrustedByAll : ℕ → Type 0
  TrustedByAll p =
      (u : ℕ) → u < user_count b → (u ≡ q → ⊥) → vouches register 5 p at.date u q ≡ true

  -- then a group that the requester leads is granted exactly when the first decision grants it
  pub trusted_alike : (threshold p : ℕ) →
      register_refused (user_count b) (permission_count b) register ≡ false → threshold_refused threshold ≡ false →
      TrustedByAll p → (g : List ℕ) → entry_user g 0 ≡ q →
      (decision_vouched register threshold b at p g ≡ 0) ↔ (decision_of b at p g ≡ 0)
  trusted_alike threshold p fine scale all g first = (
    λ h.
        let (d, askable, w) = (granted_with register threshold b at p g).0 h in
        (granted_by [] b at p g).1 (d.accepted, askable.there, askable.in_range, w.granted),
    λ h.
        let (ok, there, in_range, w) = (granted_by [] b at p g).0 h in
        let five = ltb-false 5 threshold (or_right (ltb threshold 1) _ scale) in
        (granted_with register threshold b at p g).1 (
          record { accepted = ok; register_fine = fine; threshold_fine = scale },
          record { there = there; in_range = in_range },
          record {
            granted = w;
            vouched = λ i some l.
                rw first
                (vouches_lower register threshold 5 p at.date (entry_user g i) q five
                (all (entry_user g i) (w.user i l) (λ same. w.different 0 i some l (first ∙ sym same))));
          },
        ),
  )

  -- by a higher threshold no group is granted that isn't by a lower one
  pub higher_grants_less : (low high p : ℕ) → 1 ≤ low → low ≤ high → (g : List ℕ) →
      decision_vouched register high b at p g ≡ 0 → decision_vouched register low b at p g ≡ 0
  higher_grants_less low high p some less g h =
      let (d, askable, w) = (granted_with register high b at p g).0 h in
      let five = ltb-false 5 high (or_right (ltb high 1) _ d.threshold_fine) in
      (granted_with register low b at p g).1 (
        record {
          accepted = d.accepted;
          register_fine = d.register_fine;
          threshold_fine = or_neither (le-ltb low 1 some) (le-ltb 5 low (omega arith));
        },
        askable,
        record {
          granted = w.granted;
          vouched = λ i behind l.
              vouches_lower register low high p at.date (entry_user g i) (entry_user g 0) less (w.vouched i behind l);
        },
      )

  -- so a permission's number stays, rises or becomes 0
  pub higher_number : (low high p : ℕ) → 1 ≤ low → low ≤ high →
      (smallest_by (led_vouched register high b at q) p ≡ 0)
      ⊎ ((0 < smallest_by (led_vouched register low b at q) p)
      × (smallest_by (led_vouched register low b at q) p ≤ smallest_by (led_vouched register high b at q) p))
  unfolding smallest_by
  higher_number low high p some less =
      ⊎_elim inl
      (λ above. inr (smallest_wider (λ g. eqb (led_vouched register high b at q p g) 0)
      (λ g. eqb (led_vouched register low b at q p g) 0) (led_bytes register low b at q p) wider above))
      (eq-zero-or-pos (smallest_by (led_vouched register high b at q) p))
    where
      wider : (t : List ℕ) → eqb (led_vouched register high b at q p t) 0 ≡ true →
          eqb (led_vouched register low b at q p t) 0 ≡ true
      wider t h =
          let (first, granted) = (led_granted q (decision_vouched register high b at) p t).0 (eqb-true _ _ h) in
          eq-eqb _ _
          ((led_granted q (decision_vouched register low b at) p t).1
          (first, higher_grants_less low high p some less t granted))
