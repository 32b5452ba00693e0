-- A permission's 13 bytes: what the search hands back, by the base.
use Prim.Native.Nat.{ℕ, ◌^◌, ◌<◌, ◌≤◌}
use mathlib.Core.Bool.{Bool, true, false, not, ◌&&◌, cond}
use mathlib.Core.Path.{◌≡◌, refl, sym, ap, ◌∙◌}
use mathlib.Core.Logic.{◌↔◌, ⊎_elim}
use mathlib.Core.List.{List, ◌∷◌}
use native.Mathlib.Omega.{arith}
use native.Mathlib.Nat.{lt_of_lt_of_le}
use borrow.Author.Tests.{eqb-true, eq-eqb, ltb-true, ltb-false, lt-ltb, le-ltb}
use lib.Dec.{ltb, eqb}
use lib.Pow.{pow_pos}
use lib.ListN.{length, get_or, replicate, get_or-eq_default}
use Rattle.folds.specs.Sets.{in_set, set_below}
use Rattle.folds.proofs.Bools.{met_or_not, and_left}
use Rattle.folds.proofs.Sets.{in_set_lem, in_none}
use Rattle.reader.specs.Tables.{clauses, role_count, permission_count, table_of, user_count}
use Rattle.reader.specs.Rules.{refusal_of}
use Rattle.reader.proofs.Frame.{roles_range, users_le}
use Rattle.reader.proofs.Accepted.{accepted_frame}
use Rattle.weights.specs.declared.Context.{Context}
use Rattle.weights.specs.Contexts.{out_of_range}
use Rattle.weights.specs.Weights.{weight}
use Rattle.weights.specs.Acting.{may_act}
use Rattle.weights.specs.Setting.{AreWeights}
use Rattle.weights.proofs.MayAct.{acting_known}
use Rattle.weights.proofs.Weigh.{weights_le, weight_high}
use Rattle.decision.specs.Decision.{eligible, out_of_date, decision_by}
use Rattle.decision.specs.Conditions.{permission_holds}
use Rattle.decision.specs.Granting.{Granted}
use Rattle.decision.proofs.Granting.{granted_by}
use Rattle.report.specs.Smallest.{smallest_by}
use Rattle.std.specs.Prelude.{Option, Some, None, MatchOption}
use Rattle.seek.specs.declared.Found.{Found}
use Rattle.seek.specs.Search.{Answered}
use Rattle.seek.specs.Answer.{AnsweredWith}
use Rattle.masks.specs.declared.Placed.{Placed}
use Rattle.masks.specs.Sets.{RoleCounts}
use Rattle.masks.proofs.Made.{checked}
use Rattle.fewest.specs.Search.{nobody, holds_with, Seeking}
use Rattle.report.specs.Parts.{SetsInDate, PartFor}
use Rattle.report.proofs.Bridge.{Tables}
use Rattle.report.proofs.InDate.{in_set_in_date}
use Rattle.report.proofs.Least.{of_decision}
use Rattle.report.proofs.Shown.{Shown, shown_none, shown_found}

-- what the search is handed, by the same table K and the same number of roles
pub same_seeking : {k k' w counts : List ℕ} {start : Placed} {d d' : ℕ} → k ≡ k' → d ≡ d' →
    Seeking k' w start d' counts → Seeking k w start d counts
same_seeking table roles s = rw (table, roles) s

-- a test that implies two others is all three
with_both : (a b c : Bool) → (c ≡ true → (a ≡ true) × (b ≡ true)) → c ≡ (a && (b && c))
with_both true true c h = refl
with_both true false true h = sym (h refl).1
with_both true false false h = refl
with_both false b true h = sym (h refl).0
with_both false b false h = refl

module _ (rules b : List ℕ) (at : Context) (p : ℕ) (ok : refusal_of b ≡ 0) where
  -- user u may act in role r and is in date
  abbrev stands : ℕ → ℕ → Bool
  stands u r = may_act b u r && not (out_of_date b at u)

  stands_known : (u r : ℕ) → stands u r ≡ true → (ltb u (user_count b) ≡ true) × (ltb r (role_count b) ≡ true)
  stands_known u r h = let k = acting_known b u r (and_left _ _ h) in (lt-ltb _ _ k.0, lt-ltb _ _ k.1)

  -- the sets of a base say who may act in which role and is in date
  pub acting_is : (sets : List ℕ) → SetsInDate b at sets → (u r : ℕ) → r < 8 →
      in_set (get_or sets u 0) r ≡ (ltb u (user_count b) && (ltb r (role_count b) && stands u r))
  acting_is sets are u r low =
      ⊎_elim (λ t. there (ltb-true _ _ t)) (λ t. past (ltb-false _ _ t)) (met_or_not (ltb u 24))
    where
      in_date : in_set (cond (out_of_date b at u) 0 (set_below 8 (may_act b u))) r ≡ stands u r
      in_date =
          in_set_in_date (out_of_date b at u) (set_below 8 (may_act b u)) r
          ∙ ap (λ (t : Bool). t && not (out_of_date b at u)) (in_set_lem (may_act b u) 8 r low)

      there : u < 24 → in_set (get_or sets u 0) r ≡ (ltb u (user_count b) && (ltb r (role_count b) && stands u r))
      there l =
          ap (λ (s : ℕ). in_set s r) (are.user u l) ∙ in_date
          ∙ with_both (ltb u (user_count b)) (ltb r (role_count b)) (stands u r) (stands_known u r)

      past : 24 ≤ u → in_set (get_or sets u 0) r ≡ (ltb u (user_count b) && (ltb r (role_count b) && stands u r))
      past l =
          let few = users_le b (accepted_frame b ok) in
          let size = are.size in
          let long : length sets ≤ u = omega arith in
          let out : user_count b ≤ u = omega arith in
          rw (get_or-eq_default sets 0 long, in_none r, le-ltb _ _ out)

  tables_of : (sets w : List ℕ) → SetsInDate b at sets → AreWeights rules b at p w →
      Tables (user_count b) (role_count b) (eligible b at p) (out_of_date b at) (λ r. weight rules b at r p) sets w
  tables_of sets w acting are = record {
    acting = acting_is sets acting;
    weight = λ r l. are.role r (lt_of_lt_of_le l (roles_range b (accepted_frame b ok)).1);
  }

  -- what an accepted base hands to the search
  pub seeking : (w counts : List ℕ) → AreWeights rules b at p w → RoleCounts (2 ^ role_count b) counts →
      Seeking (table_of b clauses) w nobody (role_count b) counts
  seeking w counts are counted = record {
    checked = checked b ok;
    light = record { most = weights_le b ok rules at p w are };
    most = (roles_range b (accepted_frame b ok)).1;
    roles = λ r low heavy. ⊎_elim
        (λ t. ltb-true _ _ t)
        (λ t.
        let z = are.role r low ∙ weight_high b ok rules at p r (ltb-false r (role_count b) t) in
        absurd (omega arith))
        (met_or_not (ltb r (role_count b)));
    counted = counted;
    few = omega arith;
    sum = omega arith;
    acted = pow_pos (role_count b);
  }

  -- what the search finds is the permission's part
  module _ (there : p < permission_count b) (in_range : out_of_range at ≡ false) {sets w : List ℕ}
      (acting : SetsInDate b at sets) (are : AreWeights rules b at p w) where
    abbrev granted : List ℕ → Bool
    granted g = eqb (decision_by rules b at p g) 0

    is : (t : List ℕ) → (granted t ≡ true) ↔ Granted (user_count b) (role_count b) (eligible b at p) (out_of_date b at)
        (λ r. weight rules b at r p) (permission_holds (table_of b clauses) p) t
    is t = (
      λ h. ((granted_by rules b at p t).0 (eqb-true _ _ h)).3,
      λ g. eq-eqb _ _ ((granted_by rules b at p t).1 (ok, there, in_range, g)),
    )

    few_roles : role_count b ≤ 8
    few_roles = (roles_range b (accepted_frame b ok)).1

    part_is : {part : List ℕ} → Shown granted part → PartFor 0 (decision_by rules b at) p part
    unfolding smallest_by
    part_is f = record {
      group = f.group;
      shown = record { number = f.number; granted = λ l. eqb-true _ _ (f.grants l); rising = λ i j low. f.rising i j };
      bytes = f.bytes;
    }

    -- where nothing is found the part has no group
    pub part_none : {n : ℕ} {bytes : List ℕ} →
        Answered sets w 0 (holds_with (table_of b clauses) p nobody) 6 n bytes → n ≡ 7 →
        PartFor 0 (decision_by rules b at) p (0 ∷ replicate 12 255)
    part_none a e = part_is
        (shown_none (table_of b clauses) p (tables_of sets w acting are) few_roles granted
        (of_decision rules b at p) is a e)

    -- or else the entries found
    pub part_found : {n : ℕ} {bytes : List ℕ} →
        Answered sets w 0 (holds_with (table_of b clauses) p nobody) 6 n bytes → n ≤ 6 →
        PartFor 0 (decision_by rules b at) p (n ∷ bytes)
    part_found a few = part_is
        (shown_found (table_of b clauses) p (tables_of sets w acting are) few_roles granted
        (of_decision rules b at p) is a few)

    pub part_with : {part : List ℕ} (o : Option Found) →
        AnsweredWith sets w 0 (holds_with (table_of b clauses) p nobody) 6 o →
        MatchOption o (part ≡ 0 ∷ replicate 12 255) (λ f. part ≡ f.n ∷ f.group) →
        PartFor 0 (decision_by rules b at) p part
    part_with None a e = rw e (part_none a.answered refl)
    part_with (Some f) a e = rw e (part_found a.answered a.some)
