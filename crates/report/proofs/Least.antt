-- The law of the smallest number: 0 exactly where no list whatever is granted; else some granted list has that many
-- entries, and none has fewer.
use Prim.Native.Nat.{ℕ, zero, suc, ◌+◌, ◌*◌, ◌/◌, ◌%◌, ◌<◌, ◌≤◌}
use mathlib.Core.Bool.{Bool, true, false, cond}
use mathlib.Core.Path.{◌≡◌, refl, sym, ◌∙◌}
use mathlib.Core.Logic.{◌↔◌, ⊎_elim}
use mathlib.Core.List.{List, [], ◌∷◌}
use native.Mathlib.Omega.{arith}
use native.Mathlib.Nat.{eq-zero-or-pos, le_antisymm, lt_of_not-le, lt_irrefl, pos_of_ne-zero}
use borrow.Author.Tests.{ltb-true, eqb-true, eqb-false, lt-ltb}
use lib.Dec.{ltb, eqb}
use lib.ListN.{length, get_or, drop, drop_of_length-le}
use lib.Seq.{drop-cons}
use Rattle.folds.specs.Below.{any_below, first_below}
use Rattle.folds.proofs.Bools.{met_or_not, never_met, clash}
use Rattle.folds.proofs.Tests.{any_found, any_some, first_least, first_lt, first_at}
use Rattle.reader.specs.Rules.{refusal_of}
use Rattle.reader.specs.Tables.{role_count, user_count}
use Rattle.reader.proofs.Frame.{roles_range, users_le}
use Rattle.reader.proofs.Accepted.{accepted_frame}
use Rattle.weights.specs.declared.Context.{Context}
use Rattle.decision.specs.Decision.{decision_by}
use Rattle.decision.specs.Groups.{entry_count}
use Rattle.decision.specs.Granting.{Granted}
use Rattle.decision.proofs.Granting.{granted_by}
use Rattle.report.specs.Smallest.{some_granted, smallest}

-- `granted` grants only groups of 1 to 6 whole entries of bytes
pub record OfBytes (granted : List ℕ → Bool) : Type 0 where
  pub whole : (t : List ℕ) → granted t ≡ true → (n : ℕ) × (1 ≤ n) × (n ≤ 6) × (length t ≡ 2 * n)
  pub byte : (t : List ℕ) → granted t ≡ true → (i : ℕ) → i < length t → get_or t i 0 < 256

-- n granted entries before g are a granted list
some_list : (granted : List ℕ → Bool) (n : ℕ) (g : List ℕ) → some_granted granted n g ≡ true →
    (t : List ℕ) × (granted t ≡ true) × (length t ≡ 2 * n + length g)
unfolding some_granted
some_list granted zero g h = (g, h, omega arith)
some_list granted (suc n) g h =
    let (u, _, k) = any_some (λ u. any_below 256 (λ r. some_granted granted n (u ∷ r ∷ g))) 256 h in
    let (r, _, m) = any_some (λ r. some_granted granted n (u ∷ r ∷ g)) 256 k in
    let (t, e, l) = some_list granted n (u ∷ r ∷ g) m in
    (t, e, omega arith)

-- what follows n entries is an entry and what follows that
entry_before : (t : List ℕ) (n : ℕ) → 2 * suc n ≤ length t →
    drop (2 * n) t ≡ get_or t (2 * n) 0 ∷ get_or t (2 * n + 1) 0 ∷ drop (2 * suc n) t
entry_before t n h =
    let a : suc (2 * n) ≡ 2 * n + 1 = omega arith in
    let b : suc (2 * n + 1) ≡ 2 * suc n = omega arith in
    let l : 2 * n < length t = omega arith in
    let m : 2 * n + 1 < length t = omega arith in
    rw (drop-cons t (2 * n) 0 l, a, drop-cons t (2 * n + 1) 0 m, b)

-- the first n entries of a granted list of bytes are found before the rest
some_of : (granted : List ℕ → Bool) (t : List ℕ) → granted t ≡ true → ((i : ℕ) → i < length t → get_or t i 0 < 256) →
    (n : ℕ) → 2 * n ≤ length t → some_granted granted n (drop (2 * n) t) ≡ true
unfolding some_granted
some_of granted t h byte zero l = h
some_of granted t h byte (suc n) l =
    let user = get_or t (2 * n) 0 in
    let role = get_or t (2 * n + 1) 0 in
    let rest = drop (2 * suc n) t in
    any_found (λ u. any_below 256 (λ r. some_granted granted n (u ∷ r ∷ rest))) 256 user (byte (2 * n) (omega arith))
    (any_found (λ r. some_granted granted n (user ∷ r ∷ rest)) 256 role (byte (2 * n + 1) (omega arith))
    (rw (← entry_before t n l) (some_of granted t h byte n (omega arith))))

-- a granted list of n entries of bytes is found
some_found : (granted : List ℕ → Bool) → OfBytes granted → (t : List ℕ) → granted t ≡ true → (n : ℕ) →
    length t ≡ 2 * n → some_granted granted n [] ≡ true
some_found granted d t h n e =
    let l : length t ≤ 2 * n = omega arith in
    rw (drop_of_length-le t l) at (some_of granted t h (d.byte t h) n (omega arith))

-- some group of i + 1 entries is granted
abbrev found : (List ℕ → Bool) → ℕ → Bool
found granted i = some_granted granted (suc i) []

-- where the first i lies below 6, the smallest number is one more
smallest_first : (granted : List ℕ → Bool) → first_below 6 (found granted) < 6 →
    smallest granted ≡ suc (first_below 6 (found granted))
unfolding smallest
smallest_first granted l = rw (lt-ltb _ _ l)

-- where the smallest number is above 0, the first i lies below 6
first_below_lem : (granted : List ℕ → Bool) → 0 < smallest granted → first_below 6 (found granted) < 6
unfolding smallest
first_below_lem granted = by (ltb (first_below 6 (found granted)) 6) refl
  where
    by : (b : Bool) → ltb (first_below 6 (found granted)) 6 ≡ b → 0 < cond b (suc (first_below 6 (found granted))) 0 →
        first_below 6 (found granted) < 6
    by true e h = ltb-true _ _ e
    by false e h = absurd (lt_irrefl 0 h)

-- the smallest number is at most 6
pub smallest_six : (granted : List ℕ → Bool) → smallest granted ≤ 6
smallest_six granted =
    ⊎_elim (λ z. omega arith)
    (λ l. let h = first_below_lem granted l in let e = smallest_first granted h in omega arith)
    (eq-zero-or-pos (smallest granted))

-- some granted list has the smallest number of entries, where it is above 0
pub smallest_shown : (granted : List ℕ → Bool) → 0 < smallest granted →
    (t : List ℕ) × (granted t ≡ true) × (length t ≡ 2 * smallest granted)
smallest_shown granted h =
    let l = first_below_lem granted h in
    let e = smallest_first granted l in
    let (t, k, m) = some_list granted (suc (first_below 6 (found granted))) [] (first_at (found granted) 6 l) in
    (t, k, omega arith)

-- no granted list has fewer entries
pub smallest_least : (granted : List ℕ → Bool) → OfBytes granted → (t : List ℕ) → granted t ≡ true →
    (0 < smallest granted) × (2 * smallest granted ≤ length t)
smallest_least granted d t h =
    let (n, low, high, e) = d.whole t h in
    by n low high e (some_found granted d t h n e)
  where
    by : (n : ℕ) → 1 ≤ n → n ≤ 6 → length t ≡ 2 * n → some_granted granted n [] ≡ true →
        (0 < smallest granted) × (2 * smallest granted ≤ length t)
    by zero low high e f = absurd (lt_irrefl 0 low)
    by (suc i) low high e f =
        let l = first_lt (found granted) 6 (any_found (found granted) 6 i high f) in
        let q = smallest_first granted l in
        let m : first_below 6 (found granted) < suc i =
        lt_of_not-le (λ k. clash (found granted i) f (first_least (found granted) 6 i k)) in
        (omega arith, omega arith)

-- where a number that is least is 0, no list is granted
none_granted : (granted : List ℕ → Bool) (k : ℕ) → ((t : List ℕ) → granted t ≡ true → (0 < k) × (2 * k ≤ length t)) →
    k ≡ 0 → (t : List ℕ) → granted t ≡ false
none_granted granted k least z t =
    never_met (granted t) (λ h. let l = (least t h).0 in omega arith)

-- the smallest number is 0 exactly where no list whatever is granted
pub smallest_zero : (granted : List ℕ → Bool) → OfBytes granted →
    (smallest granted ≡ 0) ↔ ((t : List ℕ) → granted t ≡ false)
smallest_zero granted d = (
  none_granted granted (smallest granted) (smallest_least granted d),
  λ none. ⊎_elim (λ z. z) (λ l. let (t, h, _) = smallest_shown granted l in clash (granted t) h (none t))
      (eq-zero-or-pos (smallest granted)),
)

-- a number that is least is at most one that is shown
at_most : (granted : List ℕ → Bool) (k s : ℕ) → ((t : List ℕ) → granted t ≡ true → (0 < k) × (2 * k ≤ length t)) →
    (0 < s → (t : List ℕ) × (granted t ≡ true) × (length t ≡ 2 * s)) → 0 < s → k ≤ s
at_most granted k s least shown l =
    let (t, h, e) = shown l in
    let (_, m) = least t h in
    omega arith

-- a number that is so shown and least is the smallest
pub smallest_is : (granted : List ℕ → Bool) → OfBytes granted → (k : ℕ) →
    (0 < k → (t : List ℕ) × (granted t ≡ true) × (length t ≡ 2 * k)) →
    ((t : List ℕ) → granted t ≡ true → (0 < k) × (2 * k ≤ length t)) → k ≡ smallest granted
smallest_is granted d k shown least =
    ⊎_elim (λ z. z ∙ sym ((smallest_zero granted d).1 (none_granted granted k least z))) both (eq-zero-or-pos k)
  where
    both : 0 < k → k ≡ smallest granted
    both l =
        let (t, h, _) = shown l in
        let m = (smallest_least granted d t h).0 in
        le_antisymm (at_most granted k (smallest granted) least (smallest_shown granted) m)
        (at_most granted (smallest granted) k (smallest_least granted d) shown l)

-- where more is granted, a number above 0 stays above 0 and doesn't rise
pub smallest_wider : (less more : List ℕ → Bool) → OfBytes more → ((t : List ℕ) → less t ≡ true → more t ≡ true) →
    0 < smallest less → (0 < smallest more) × (smallest more ≤ smallest less)
smallest_wider less more d wider l =
    let (t, h, e) = smallest_shown less l in
    let (above, m) = smallest_least more d t (wider t h) in
    (above, omega arith)

-- a list of n entries holds bytes where each entry's two numbers are bytes
bytes_of : (t : List ℕ) (n : ℕ) → length t ≡ 2 * n →
    ((j : ℕ) → j < n → get_or t (2 * j) 0 < 256) → ((j : ℕ) → j < n → get_or t (2 * j + 1) 0 < 256) →
    (i : ℕ) → i < length t → get_or t i 0 < 256
bytes_of t n e user role i l =
    let m : i / 2 < n = omega arith in
    ⊎_elim (λ z. even (eqb-true _ _ z) (user (i / 2) m)) (λ z. odd (eqb-false _ _ z) (role (i / 2) m))
    (met_or_not (eqb (i % 2) 0))
  where
    even : i % 2 ≡ 0 → get_or t (2 * (i / 2)) 0 < 256 → get_or t i 0 < 256
    even z h = let q : 2 * (i / 2) ≡ i = omega arith in rw q at h

    odd : (i % 2 ≡ 0 → ⊥) → get_or t (2 * (i / 2) + 1) 0 < 256 → get_or t i 0 < 256
    odd z h = let q : 2 * (i / 2) + 1 ≡ i = omega (arith, pos_of_ne-zero z) in rw q at h

-- a granted group is one, where there are at most 256 users and roles
module _ {U R : ℕ} {may : ℕ → ℕ → Bool} {out : ℕ → Bool} {weigh : ℕ → ℕ} {condition : ℕ → ℕ → ℕ → Bool} (t : List ℕ)
    (w : Granted U R may out weigh condition t) where
  pub granted_whole : (n : ℕ) × (1 ≤ n) × (n ≤ 6) × (length t ≡ 2 * n)
  granted_whole = (entry_count t, w.some, w.few, w.whole)

  pub granted_byte : U ≤ 256 → R ≤ 256 → (i : ℕ) → i < length t → get_or t i 0 < 256
  granted_byte users roles =
      bytes_of t (entry_count t) w.whole (λ j l. let k = w.user j l in omega arith)
      (λ j l. let k = w.role j l in omega arith)

-- the numbers of users and roles of an accepted base are bytes
pub counts_bytes : (b : List ℕ) → refusal_of b ≡ 0 → (user_count b ≤ 256) × (role_count b ≤ 256)
counts_bytes b ok =
    let f = accepted_frame b ok in
    let U = users_le b f in
    let R = (roles_range b f).1 in
    (omega arith, omega arith)

-- the decision grants only such groups, by any rules
pub of_decision : (rules b : List ℕ) (at : Context) (p : ℕ) → OfBytes (λ g. eqb (decision_by rules b at p g) 0)
of_decision rules b at p = record {
  whole = λ t h. granted_whole t ((granted_by rules b at p t).0 (eqb-true _ _ h)).3;
  byte = λ t h.
      let (ok, _, _, w) = (granted_by rules b at p t).0 (eqb-true _ _ h) in
      let (users, roles) = counts_bytes b ok in
      granted_byte t w users roles;
}
