-- Groups that the vouching chain grants, the first entry the requester's, and what the search looks for with that entry
-- placed stand for each other: lists of entries by rising user to stand behind it.
use Prim.Native.Nat.{ℕ, zero, suc, ◌+◌, ◌^◌, ◌<◌, ◌≤◌}
use mathlib.Core.Bool.{Bool, true}
use mathlib.Core.Path.{◌≡◌, refl, sym, ◌∙◌}
use mathlib.Core.List.{List, [], ◌∷◌}
use native.Mathlib.Omega.{arith}
use lib.Bits.{bit_or}
use lib.ListN.{length, get_or}
use Rattle.decision.specs.Groups.{entry_count, entry_user, entry_role, acted_in, sum_of, roles_of}
use Rattle.decision.specs.Conditions.{permission_holds}
use Rattle.decision.proofs.Front.{later_user}
use Rattle.multisets.specs.Rising.{Entry, Rises, entries_sum, entries_roles, bytes_of}
use Rattle.report.proofs.Bridge.{Tables, MayStand}
use Rattle.report.proofs.Turned.{rises_rising, rises_granted, granted_rises, bytes_length}
use Rattle.vouch.specs.Beside.{beside}
use Rattle.seek.specs.Led.{MeetsBeside}
use Rattle.vouch.specs.Granting.{GrantedVouched}
use Rattle.vouch.proofs.Behind.{behind_role, Behind, behind_none, behind_granted, granted_behind}
use Rattle.vouch.proofs.Behind.{first_stands, behind_of, granted_led}

-- a granted group of n entries, the first of q, the others by rising user
pub record LedGroup (U R : ℕ) (may : ℕ → ℕ → Bool) (out : ℕ → Bool) (vouches : ℕ → ℕ → Bool) (weigh : ℕ → ℕ)
    (condition : ℕ → ℕ → ℕ → Bool) (q n : ℕ) (t : List ℕ) : Type 0 where
  pub granted : GrantedVouched U R may out vouches weigh condition t
  pub first : entry_user t 0 ≡ q
  pub number : entry_count t ≡ n
  pub rising : (i j : ℕ) → 1 ≤ i → i < j → j < n → entry_user t i < entry_user t j

-- users that rise, behind an entry in front
rising_behind : (q r : ℕ) (l : List ℕ) (n : ℕ) → ((i j : ℕ) → i < j → j < n → entry_user l i < entry_user l j) →
    (i j : ℕ) → 1 ≤ i → i < j → j < suc n → entry_user (q ∷ r ∷ l) i < entry_user (q ∷ r ∷ l) j
rising_behind q r l n rises zero j some k h = absurd (omega arith)
rising_behind q r l n rises (suc i) zero some k h = absurd (omega arith)
rising_behind q r l n rises (suc i) (suc j) some k h =
    rw (later_user q r l i, later_user q r l j) (rises i j (omega arith) (omega arith))

module _ {U R : ℕ} {may : ℕ → ℕ → Bool} {out : ℕ → Bool} {weigh : ℕ → ℕ} {sets w : List ℕ}
    (condition : ℕ → ℕ → ℕ → Bool) (q : ℕ) (vouches : ℕ → ℕ → Bool)
    (tables : Tables U R (beside may vouches q) out weigh sets w) (small : R ≤ 8) where
  -- entries of bytes behind q, by rising user
  behind_rises : (r : ℕ) (l : List ℕ) → Behind U R may out vouches weigh condition q r l →
      (g : List Entry) × (length g ≡ entry_count l) × Rises sets w 0 g
      × (behind_role weigh condition r (length g) (entries_sum w g) (entries_roles g) ≡ true)
  unfolding sum_of roles_of acted_in
  behind_rises r [] d = ([], refl, tt, d.holds)
  behind_rises r (x ∷ l) d =
      let whole = d.whole in
      granted_rises (behind_role weigh condition r) tables small (x ∷ l) (granted_behind (x ∷ l) (omega arith) d)

  rises_behind : (r : ℕ) (g : List Entry) → length g ≤ 5 → Rises sets w 0 g →
      behind_role weigh condition r (length g) (entries_sum w g) (entries_roles g) ≡ true →
      Behind U R may out vouches weigh condition q r (bytes_of g)
  rises_behind r [] few rises h = behind_none h
  rises_behind r (e ∷ g) few rises h =
      behind_granted (bytes_of (e ∷ g)) (omega (arith, bytes_length g))
      (rises_granted (behind_role weigh condition r) tables (e ∷ g) (omega arith) (omega arith) rises h)

  -- the first entry of a granted group is q's: q may stand there, and behind it stand entries by rising user that meet
  -- what the condition asks of them
  pub led_placed : (t : List ℕ) → GrantedVouched U R may out vouches weigh condition t → entry_user t 0 ≡ q →
      let r = entry_role t 0 in
      MayStand U R may out weigh q r × (g : List Entry) × (suc (length g) ≡ entry_count t) × Rises sets w 0 g
      × (behind_role weigh condition r (length g) (entries_sum w g) (entries_roles g) ≡ true)
  led_placed [] d e = absurd (let some = d.granted.some in omega arith)
  led_placed (u ∷ []) d e = absurd (let some = d.granted.some in omega arith)
  led_placed (u ∷ r ∷ l) d e =
      let of = rw e at d in
      let (g, n, rises, holds) = behind_rises r l (behind_of q r l of small) in
      (first_stands q r l of, g, omega arith, rises, holds)

  -- q, who may stand in role r, in front of such entries is a granted group
  pub placed_led : (r : ℕ) → MayStand U R may out weigh q r → (g : List Entry) → length g ≤ 5 → Rises sets w 0 g →
      behind_role weigh condition r (length g) (entries_sum w g) (entries_roles g) ≡ true →
      LedGroup U R may out vouches weigh condition q (suc (length g)) (q ∷ r ∷ bytes_of g)
  placed_led r first g few rises h = record {
    granted = granted_led q r (bytes_of g) first (rises_behind r g few rises h) small;
    first = refl;
    number = omega (arith, bytes_length g);
    rising = rising_behind q r (bytes_of g) (length g) (rises_rising sets w g rises);
  }

-- beside it the search looks for what the condition asks of the entries behind it
holds_beside : (condition : ℕ → ℕ → ℕ → Bool) (w : List ℕ) (weigh : ℕ → ℕ) (r n sum set : ℕ) →
    get_or w r 0 ≡ weigh r →
    condition (suc n) (get_or w r 0 + sum) (bit_or (2 ^ r) set) ≡ behind_role weigh condition r n sum set
holds_beside condition w weigh r n sum set e = rw e refl

module _ {U R : ℕ} {may : ℕ → ℕ → Bool} {out : ℕ → Bool} {weigh : ℕ → ℕ} {sets w : List ℕ} (k : List ℕ) (p q : ℕ)
    (vouches : ℕ → ℕ → Bool) (tables : Tables U R (beside may vouches q) out weigh sets w) (small : R ≤ 8) where
  -- the same in the words of the search, with q placed
  pub led_meets : (t : List ℕ) → GrantedVouched U R may out vouches weigh (permission_holds k p) t →
      entry_user t 0 ≡ q →
      MayStand U R may out weigh q (entry_role t 0)
      × (g : List Entry) × (suc (length g) ≡ entry_count t) × (length g ≤ 5)
      × MeetsBeside sets w (permission_holds k p) (entry_role t 0) g
  led_meets t d e =
      let (first, g, n, rises, holds) = led_placed (permission_holds k p) q vouches tables small t d e in
      let r = entry_role t 0 in
      let few = d.granted.few in
      let weight = tables.weight r first.role in
      let same = holds_beside (permission_holds k p) w weigh r (length g) (entries_sum w g) (entries_roles g) weight in
      (first, g, n, omega arith, record { rises = rises; met = same ∙ holds })

  pub meets_led : (r : ℕ) → MayStand U R may out weigh q r → (g : List Entry) → length g ≤ 5 →
      MeetsBeside sets w (permission_holds k p) r g →
      LedGroup U R may out vouches weigh (permission_holds k p) q (suc (length g)) (q ∷ r ∷ bytes_of g)
  meets_led r first g few m =
      let weight = tables.weight r first.role in
      let same = holds_beside (permission_holds k p) w weigh r (length g) (entries_sum w g) (entries_roles g) weight in
      placed_led (permission_holds k p) q vouches tables small r first g few m.rises (sym same ∙ m.met)
