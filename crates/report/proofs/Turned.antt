-- Granted groups of bytes and lists of entries by rising user stand for each other: same number, sum and set.
use Prim.Native.Nat.{ℕ, ◌+◌, ◌*◌, ◌<◌, ◌≤◌}
use mathlib.Core.Bool.{Bool, true}
use mathlib.Core.Path.{◌≡◌, refl, ◌∙◌}
use mathlib.Core.List.{List, [], ◌∷◌}
use native.Mathlib.Omega.{arith}
use native.Mathlib.Nat.{le_refl, lt_of_lt_of_le, add-zero}
use lib.ListN.{length}
use lib.Bits.{or_zero_r}
use Rattle.decision.specs.Groups.{entry_count, entry_user}
use Rattle.decision.specs.Granting.{Granted}
use Rattle.multisets.specs.Rising.{Entry, Rises, entries_sum, entries_roles, bytes_of}
use Rattle.multisets.proofs.Turned.{turned, turned_length, turned_sum, turned_roles, turned_bytes, rises_less}
use Rattle.report.proofs.Bridge.{Tables, Falls, falls_rising, falls_granted, granted_falls}

-- each entry is 2 bytes
pub bytes_length : (g : List Entry) → length (bytes_of g) ≡ 2 * length g
bytes_length [] = refl
bytes_length (e ∷ g) = let h = bytes_length g in omega arith

module _ (sets w : List ℕ) where
  -- a falling list lies below any later end
  falls_more : (a b : ℕ) (g : List Entry) → a ≤ b → Falls sets w a g → Falls sets w b g
  falls_more a b [] h f = tt
  falls_more a b (e ∷ g) h f = (lt_of_lt_of_le f.0 h, f.1, f.2)

  -- a rising list falls the other way round
  rises_falls : (from : ℕ) (g h : List Entry) → Rises sets w from g → Falls sets w from h →
      (end : ℕ) × Falls sets w end (turned g h)
  rises_falls from [] h r f = (from, f)
  rises_falls from (e ∷ g) h r f =
      rises_falls (e.user + 1) g (e ∷ h) r.2 (omega arith, r.1, falls_more from e.user h r.0 f)

  -- and a falling one rises
  falls_rises : (end : ℕ) (g h : List Entry) → Falls sets w end g → Rises sets w end h → Rises sets w 0 (turned g h)
  falls_rises end [] h f r = rises_less sets w end 0 h (omega arith) r
  falls_rises end (e ∷ g) h f r =
      let later = rises_less sets w end (e.user + 1) h (let l = f.0 in omega arith) r in
      falls_rises e.user g (e ∷ h) f.2 (le_refl e.user, f.1, later)

  -- the users in the bytes of a rising list rise strictly
  pub rises_rising : (g : List Entry) → Rises sets w 0 g → (i j : ℕ) → i < j → j < length g →
      entry_user (bytes_of g) i < entry_user (bytes_of g) j
  rises_rising g r i j k l =
      let (end, f) = rises_falls 0 g [] r tt in
      let n = turned_length g [] in
      rw (turned_bytes g []) at (falls_rising sets w end (turned g []) f i j k (omega arith))

module _ {U R : ℕ} {may : ℕ → ℕ → Bool} {out : ℕ → Bool} {weigh : ℕ → ℕ} {sets w : List ℕ}
    (condition : ℕ → ℕ → ℕ → Bool) (tables : Tables U R may out weigh sets w) where
  -- a rising list of entries that meets the condition is a granted group
  pub rises_granted : (g : List Entry) → 1 ≤ length g → length g ≤ 6 → Rises sets w 0 g
      → condition (length g) (entries_sum w g) (entries_roles g) ≡ true
      → Granted U R may out weigh condition (bytes_of g)
  rises_granted g some few r h =
      let (end, f) = rises_falls sets w 0 g [] r tt in
      let n : length (turned g []) ≡ length g = turned_length g [] ∙ add-zero (length g) in
      let s : entries_sum w (turned g []) ≡ entries_sum w g = turned_sum w g [] ∙ add-zero (entries_sum w g) in
      let q : entries_roles (turned g []) ≡ entries_roles g = turned_roles g [] ∙ or_zero_r (entries_roles g) in
      rw (turned_bytes g [])
      at (falls_granted condition tables end (turned g []) (rw n some) (rw n few) f (rw (n, s, q) h))

  -- every granted list has a rising list of entries with the same number, sum and set
  pub granted_rises : R ≤ 8 → (t : List ℕ) → Granted U R may out weigh condition t
      → (g : List Entry) × (length g ≡ entry_count t) × Rises sets w 0 g
      × (condition (length g) (entries_sum w g) (entries_roles g) ≡ true)
  granted_rises small t d =
      let (g, n, f, s, q) = granted_falls condition tables small t d in
      let k : length (turned g []) ≡ entry_count t = turned_length g [] ∙ add-zero (length g) ∙ n in
      let sum = turned_sum w g [] ∙ add-zero (entries_sum w g) ∙ s in
      let roles = turned_roles g [] ∙ or_zero_r (entries_roles g) ∙ q in
      (turned g [], k, falls_rises sets w U g [] f tt, rw (k, sum, roles) d.holds)
