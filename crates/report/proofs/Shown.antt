-- What the search finds from nothing placed is a smallest granted group.
use Prim.Native.Nat.{ℕ, ◌+◌, ◌-◌, ◌*◌, ◌<◌, ◌≤◌}
use mathlib.Core.Bool.{Bool, true, false}
use mathlib.Core.Path.{◌≡◌, ap, ◌∙◌}
use mathlib.Core.Logic.{◌↔◌}
use mathlib.Core.List.{List, [], ◌∷◌, ◌++◌}
use native.Mathlib.Omega.{arith}
use native.Mathlib.Nat.{zero-add}
use borrow.Author.Tests.{lt-ltb, ltb-true}
use lib.Bits.{bit_or, or_zero_l}
use lib.Dec.{ltb}
use lib.ListN.{length, replicate}
use Rattle.folds.proofs.Bools.{never_met, and_left, and_right, and_both}
use Rattle.decision.specs.Groups.{entry_user}
use Rattle.decision.specs.Conditions.{permission_holds}
use Rattle.decision.specs.Granting.{Granted}
use Rattle.multisets.specs.Rising.{Entry, entries_sum, entries_roles, bytes_of}
use Rattle.seek.specs.Search.{Meets, Answered}
use Rattle.report.specs.Smallest.{smallest}
use Rattle.fewest.specs.Search.{nobody, holds_with}
use Rattle.report.specs.Report.{part_bytes}
use Rattle.report.proofs.Bridge.{Tables}
use Rattle.report.proofs.Turned.{rises_rising, rises_granted, granted_rises, bytes_length}
use Rattle.report.proofs.Least.{OfBytes, smallest_is, smallest_zero}

-- a number, and entries of so many, are a part
same_part : (n m l : ℕ) (g : List ℕ) → l ≡ n → n ≡ m → n ∷ (g ++ replicate (12 - 2 * l) 255) ≡ part_bytes m g
same_part n m l g e f = rw (e, f)

-- the 13 bytes of a smallest group, by rising user
pub record Shown (granted : List ℕ → Bool) (part : List ℕ) : Type 0 where
  pub group : List ℕ
  pub number : length group ≡ 2 * smallest granted
  pub grants : 0 < smallest granted → granted group ≡ true
  pub rising : (i j : ℕ) → i < j → j < smallest granted → entry_user group i < entry_user group j
  pub bytes : part ≡ part_bytes (smallest granted) group

module _ {U R : ℕ} {may : ℕ → ℕ → Bool} {out : ℕ → Bool} {weigh : ℕ → ℕ} {sets w : List ℕ} (k : List ℕ) (p : ℕ)
    (tables : Tables U R may out weigh sets w)
    (roles : R ≤ 8) (granted : List ℕ → Bool) (of : OfBytes granted)
    (is : (t : List ℕ) → (granted t ≡ true) ↔ Granted U R may out weigh (permission_holds k p) t) where
  -- the condition on entries with nothing placed before
  met_from_nobody : (g : List Entry) → 1 ≤ length g →
      permission_holds k p (length g) (entries_sum w g) (entries_roles g) ≡ true →
      holds_with k p nobody (length g) (0 + entries_sum w g) (entries_roles g) ≡ true
  met_from_nobody g some h =
      let a : ltb 0 (0 + length g) ≡ true = rw (zero-add (length g)) (lt-ltb 0 (length g) some) in
      let b : permission_holds k p (0 + length g) (0 + entries_sum w g) (bit_or 0 (entries_roles g)) ≡ true =
      rw (zero-add (length g), zero-add (entries_sum w g), or_zero_l (entries_roles g)) h in
      and_both a b

  -- a granted group meets it, by rising user
  granted_meets : (t : List ℕ) → granted t ≡ true →
      (g : List Entry) × (length t ≡ 2 * length g) × (1 ≤ length g) × (length g ≤ 6)
      × Meets sets w 0 (holds_with k p nobody (length g)) g
  granted_meets t h =
      let d = (is t).0 h in
      let (g, n, rises, holds) = granted_rises (permission_holds k p) tables roles t d in
      let whole = d.whole in
      let some = d.some in
      let few = d.few in (
        g,
        omega arith,
        omega arith,
        omega arith,
        record { rises = rises; met = met_from_nobody g (omega arith) holds },
      )

  -- where nothing is found no group is granted
  pub shown_none : {n : ℕ} {bytes : List ℕ} → Answered sets w 0 (holds_with k p nobody) 6 n bytes → n ≡ 7 →
      Shown granted (0 ∷ replicate 12 255)
  shown_none {n} a seven = record {
    group = [];
    number = rw z;
    grants = λ l. absurd (omega (arith, z));
    rising = λ i j a b. absurd (omega (arith, z));
    bytes = rw z;
  }
    where
      no : (t : List ℕ) → granted t ≡ false
      no t = never_met (granted t)
          (λ h. let (g, _, _, few, m) = granted_meets t h in let l = a.sought.least g few m in omega arith)

      z : smallest granted ≡ 0
      z = (smallest_zero granted of).1 no

  -- what is found is a smallest group
  pub shown_found : {n : ℕ} {bytes : List ℕ} → Answered sets w 0 (holds_with k p nobody) 6 n bytes → n ≤ 6 →
      Shown granted (n ∷ bytes)
  shown_found {n} {bytes} a few = record {
    group = bytes_of g;
    number = rw (← number) (size ∙ rw many);
    grants = λ l. yes;
    rising = λ i j b c. rises_rising sets w g meets.rises i j b (rw many (rw (← number) at c));
    bytes = ap (λ (x : List ℕ). n ∷ x) (a.shown few)
        ∙ same_part n (smallest granted) (length g) (bytes_of g) many number;
  }
    where
      g : List Entry
      g = a.group

      many : length g ≡ n
      many = a.sought.many few

      meets : Meets sets w 0 (holds_with k p nobody n) g
      meets = a.sought.meets few

      size : length (bytes_of g) ≡ 2 * length g
      size = bytes_length g

      some : 1 ≤ n
      some = rw (zero-add n) at (ltb-true 0 (0 + n) (and_left _ _ meets.met))

      holds : permission_holds k p (length g) (entries_sum w g) (entries_roles g) ≡ true
      holds =
          let h = and_right (ltb 0 (0 + n)) _ meets.met in
          rw many (rw (zero-add n, zero-add (entries_sum w g), or_zero_l (entries_roles g)) at h)

      yes : granted (bytes_of g) ≡ true
      yes = (is (bytes_of g)).1
          (rises_granted (permission_holds k p) tables g (rw many some) (rw many few) meets.rises holds)

      least : (t : List ℕ) → granted t ≡ true → (0 < n) × (2 * n ≤ length t)
      least t h =
          let (g, size, _, few, m) = granted_meets t h in
          let l = a.sought.least g few m in
          (some, omega arith)

      number : n ≡ smallest granted
      number = smallest_is granted of n (λ l. (bytes_of g, yes, size ∙ rw many)) least
