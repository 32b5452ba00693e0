-- What stands behind the first entry, the requester's, of a group that the vouching chain grants.
use Prim.Native.Nat.{ℕ, zero, suc, ◌+◌, ◌*◌, ◌^◌, ◌<◌, ◌≤◌}
use mathlib.Core.Bool.{Bool, true, not}
use mathlib.Core.Path.{◌≡◌, refl, sym, ap, ◌∙◌}
use mathlib.Core.List.{List, [], ◌∷◌}
use native.Mathlib.Omega.{arith}
use native.Mathlib.Nat.{lt_of_lt_of_le}
use borrow.Author.Tests.{eqb-false, ne_eqb, not-true}
use lib.Bits.{bit_or}
use lib.ListN.{length}
use Rattle.folds.proofs.Bools.{and_left, and_right, and_both}
use Rattle.decision.specs.Groups.{entry_count, entry_user, entry_role, acted_in, sum_of, roles_of}
use Rattle.decision.specs.Granting.{Granted}
use Rattle.decision.proofs.Front.{front_count, later_user, later_role, front_each, front_sum, front_roles}
use Rattle.report.proofs.Bridge.{MayStand}
use Rattle.vouch.specs.Beside.{beside}
use Rattle.vouch.specs.Granting.{Vouched, GrantedVouched}

-- what the condition asks of the entries behind one in role r
abbrev pub behind_role : (ℕ → ℕ) → (ℕ → ℕ → ℕ → Bool) → ℕ → ℕ → ℕ → ℕ → Bool
behind_role weigh condition r = λ n sum set. condition (suc n) (weigh r + sum) (bit_or (2 ^ r) set)

-- the condition on a group asks so of the entries behind the first
condition_behind : (weigh : ℕ → ℕ) (condition : ℕ → ℕ → ℕ → Bool) (q r : ℕ) (l : List ℕ) → r < 8 →
    condition (entry_count (q ∷ r ∷ l)) (sum_of weigh (q ∷ r ∷ l)) (roles_of (q ∷ r ∷ l))
    ≡ behind_role weigh condition r (entry_count l) (sum_of weigh l) (roles_of l)
condition_behind weigh condition q r l low = rw (front_count q r l, front_sum q r l weigh, front_roles q r l low)

-- at most five whole entries of different users who may stand beside q, and the condition holds with q in role r in
-- front
pub record Behind (U R : ℕ) (may : ℕ → ℕ → Bool) (out : ℕ → Bool) (vouches : ℕ → ℕ → Bool) (weigh : ℕ → ℕ)
    (condition : ℕ → ℕ → ℕ → Bool) (q r : ℕ) (l : List ℕ) : Type 0 where
  pub whole : length l ≡ 2 * entry_count l
  pub few : entry_count l ≤ 5
  pub each : (i : ℕ) → i < entry_count l →
      MayStand U R (beside may vouches q) out weigh (entry_user l i) (entry_role l i)
  pub different : (i j : ℕ) → i < j → j < entry_count l → entry_user l i ≡ entry_user l j → ⊥
  pub holds : behind_role weigh condition r (entry_count l) (sum_of weigh l) (roles_of l) ≡ true

-- who may stand beside q may act in the role, is another user and vouches for q
module _ (may vouches : ℕ → ℕ → Bool) (q : ℕ) {u r : ℕ} where
  beside_is : beside may vouches q u r ≡ true → (may u r ≡ true) × (u ≡ q → ⊥) × (vouches u q ≡ true)
  beside_is h =
      let past_acting = and_right (may u r) _ h in
      (and_left (may u r) _ h, eqb-false u q (not-true _ (and_left _ _ past_acting)), and_right _ _ past_acting)

  is_beside : may u r ≡ true → (u ≡ q → ⊥) → vouches u q ≡ true → beside may vouches q u r ≡ true
  is_beside acting other vouched = and_both acting (and_both (ap not (ne_eqb u q other)) vouched)

-- each entry of a granted group may stand there
each_stands : {U R : ℕ} {may : ℕ → ℕ → Bool} {out : ℕ → Bool} {weigh : ℕ → ℕ} {condition : ℕ → ℕ → ℕ → Bool}
    {t : List ℕ} → Granted U R may out weigh condition t → (i : ℕ) → i < entry_count t →
    MayStand U R may out weigh (entry_user t i) (entry_role t i)
each_stands d i h = record {
  user = d.user i h;
  role = d.role i h;
  acting = d.acting i h;
  days = d.days i h;
  heavy = d.heavy i h;
}

module _ {U R : ℕ} {may : ℕ → ℕ → Bool} {out : ℕ → Bool} {vouches : ℕ → ℕ → Bool} {weigh : ℕ → ℕ}
    {condition : ℕ → ℕ → ℕ → Bool} {q r : ℕ} where
  -- no entry at all
  pub behind_none : condition 1 (weigh r + 0) (bit_or (2 ^ r) 0) ≡ true →
      Behind U R may out vouches weigh condition q r []
  unfolding sum_of roles_of acted_in
  behind_none h = record {
    whole = refl;
    few = omega arith;
    each = λ i l. absurd (omega arith);
    different = λ i j k l. absurd (omega arith);
    holds = h;
  }

  module _ (l : List ℕ) where
    -- some entries are a granted group of their own
    pub behind_granted : entry_count l ≤ 5 →
        Granted U R (beside may vouches q) out weigh (behind_role weigh condition r) l →
        Behind U R may out vouches weigh condition q r l
    behind_granted few d = record {
      whole = d.whole;
      few = few;
      each = each_stands d;
      different = d.different;
      holds = d.holds;
    }

    pub granted_behind : 1 ≤ entry_count l → Behind U R may out vouches weigh condition q r l →
        Granted U R (beside may vouches q) out weigh (behind_role weigh condition r) l
    granted_behind some d = record {
      whole = d.whole;
      some = some;
      few = (let few = d.few in omega arith);
      user = λ i h. (d.each i h).user;
      role = λ i h. (d.each i h).role;
      different = d.different;
      acting = λ i h. (d.each i h).acting;
      days = λ i h. (d.each i h).days;
      heavy = λ i h. (d.each i h).heavy;
      holds = d.holds;
    }

-- a granted group, the first entry of q in role r
module _ {U R : ℕ} {may : ℕ → ℕ → Bool} {out : ℕ → Bool} {vouches : ℕ → ℕ → Bool} {weigh : ℕ → ℕ}
    {condition : ℕ → ℕ → ℕ → Bool} (q r : ℕ) (l : List ℕ)
    (d : GrantedVouched U R may out vouches weigh condition (q ∷ r ∷ l)) where
  pub first_stands : MayStand U R may out weigh q r
  first_stands = each_stands d.granted 0 (omega arith)

  later_stands : (i : ℕ) → i < entry_count l →
      MayStand U R (beside may vouches q) out weigh (entry_user l i) (entry_role l i)
  later_stands i h =
      let same = later_user q r l i in
      let stands = rw (same, later_role q r l i) at (each_stands d.granted (suc i) (omega arith)) in
      let other = d.granted.different 0 (suc i) (omega arith) (omega arith) in
      let vouched = rw same at (d.vouched (suc i) (omega arith) (omega arith)) in
      record {
        user = stands.user;
        role = stands.role;
        acting = is_beside may vouches q stands.acting (λ e. other (sym (same ∙ e))) vouched;
        days = stands.days;
        heavy = stands.heavy;
      }

  pub behind_of : R ≤ 8 → Behind U R may out vouches weigh condition q r l
  behind_of small = record {
    whole = (let whole = d.granted.whole in omega arith);
    few = (let few = d.granted.few in omega arith);
    each = later_stands;
    different = λ i j k h e.
        d.granted.different (suc i) (suc j) (omega arith) (omega arith)
        (later_user q r l i ∙ e ∙ sym (later_user q r l j));
    holds = sym (condition_behind weigh condition q r l (lt_of_lt_of_le first_stands.role small)) ∙ d.granted.holds;
  }

-- q, who may stand in role r, in front of entries that may stand behind
module _ {U R : ℕ} {may : ℕ → ℕ → Bool} {out : ℕ → Bool} {vouches : ℕ → ℕ → Bool} {weigh : ℕ → ℕ}
    {condition : ℕ → ℕ → ℕ → Bool} (q r : ℕ) (l : List ℕ) (first : MayStand U R may out weigh q r)
    (d : Behind U R may out vouches weigh condition q r l) where
  abbrev led : List ℕ
  led = q ∷ r ∷ l

  -- who stands behind may act there, is another user than q and vouches for q
  later_is : (i : ℕ) → i < entry_count l →
      (may (entry_user l i) (entry_role l i) ≡ true) × (entry_user l i ≡ q → ⊥) × (vouches (entry_user l i) q ≡ true)
  later_is i h = beside_is may vouches q (d.each i h).acting

  each_led : (i : ℕ) → i < entry_count led → MayStand U R may out weigh (entry_user led i) (entry_role led i)
  each_led = front_each q r l (MayStand U R may out weigh) first (λ i h.
      let stands = d.each i h in
      record {
        user = stands.user;
        role = stands.role;
        acting = (later_is i h).0;
        days = stands.days;
        heavy = stands.heavy;
      })

  different_led : (i j : ℕ) → i < j → j < entry_count led → entry_user led i ≡ entry_user led j → ⊥
  different_led i zero k h e = absurd (omega arith)
  different_led zero (suc j) k h e = (later_is j (omega arith)).1 (sym (e ∙ later_user q r l j))
  different_led (suc i) (suc j) k h e =
      d.different i j (omega arith) (omega arith) (sym (later_user q r l i) ∙ e ∙ later_user q r l j)

  vouched_led : Vouched vouches led
  vouched_led zero some h = absurd (omega arith)
  vouched_led (suc i) some h = rw (later_user q r l i) (later_is i (omega arith)).2

  pub granted_led : R ≤ 8 → GrantedVouched U R may out vouches weigh condition led
  granted_led small = record {
    granted = record {
      whole = (let whole = d.whole in omega arith);
      some = omega arith;
      few = (let few = d.few in omega arith);
      user = λ i h. (each_led i h).user;
      role = λ i h. (each_led i h).role;
      different = different_led;
      acting = λ i h. (each_led i h).acting;
      days = λ i h. (each_led i h).days;
      heavy = λ i h. (each_led i h).heavy;
      holds = condition_behind weigh condition q r l (lt_of_lt_of_le first.role small) ∙ d.holds;
    };
    vouched = vouched_led;
  }
