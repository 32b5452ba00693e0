-- Entries turned round: a group by rising user stands the other way round, and back.
use Prim.Native.Nat.{ℕ, ◌+◌, ◌^◌, ◌<◌, ◌≤◌}
use mathlib.Core.Path.{◌≡◌, refl, sym, ap, ◌∙◌}
use mathlib.Core.List.{List, [], ◌∷◌, ◌++◌, append-nil, append_assoc}
use native.Mathlib.Omega.{arith}
use native.Mathlib.Nat.{le_trans, le_refl}
use lib.ListN.{length, get_or}
use lib.Bits.{bit_or, or_comm, or_zero_l}
use Rattle.folds.proofs.Sets.{or_assoc}
use Rattle.multisets.specs.Ranks.{Roles}
use Rattle.multisets.specs.Rising.{Entry, Rises, entries_sum, entries_roles, bytes_of}
use Rattle.multisets.specs.Standing.{Acts, end_of, Stands, role_list, bytes_back}
use Rattle.multisets.specs.Values.{sum_over, set_of}

-- the entries of g, turned round, before those of h
abbrev pub turned : List Entry → List Entry → List Entry
turned [] h = h
turned (e ∷ g) h = turned g (e ∷ h)

-- number, sum and set stay
pub turned_length : (g h : List Entry) → length (turned g h) ≡ length g + length h
turned_length [] h = omega arith
turned_length (e ∷ g) h = let a = turned_length g (e ∷ h) in omega arith

pub turned_sum : (w : List ℕ) (g h : List Entry) → entries_sum w (turned g h) ≡ entries_sum w g + entries_sum w h
turned_sum w [] h = omega arith
turned_sum w (e ∷ g) h = let a = turned_sum w g (e ∷ h) in omega arith

pub turned_roles : (g h : List Entry) → entries_roles (turned g h) ≡ bit_or (entries_roles g) (entries_roles h)
turned_roles [] h = sym (or_zero_l (entries_roles h))
turned_roles (e ∷ g) h =
    turned_roles g (e ∷ h)
    ∙ sym (or_assoc (entries_roles g) (2 ^ e.role) (entries_roles h))
    ∙ ap (λ (x : ℕ). bit_or x (entries_roles h)) (or_comm (entries_roles g) (2 ^ e.role))

-- and so do the bytes, read the other way
pub turned_bytes : (g h : List Entry) → bytes_back (turned g h) ≡ bytes_back h ++ bytes_of g
turned_bytes [] h = sym (append-nil (bytes_back h))
turned_bytes (e ∷ g) h = turned_bytes g (e ∷ h) ∙ append_assoc (bytes_back h) (e.user ∷ e.role ∷ []) (bytes_of g)

pub bytes_turned : (g h : List Entry) → bytes_of (turned g h) ≡ bytes_back g ++ bytes_of h
bytes_turned [] h = refl
bytes_turned (e ∷ g) h = bytes_turned g (e ∷ h) ∙ sym (append_assoc (bytes_back g) (e.user ∷ e.role ∷ []) (bytes_of h))

-- sum and set are those of the roles
pub sum_roles : (w : List ℕ) (g : List Entry) → entries_sum w g ≡ sum_over (λ r. get_or w r 0) (role_list g)
sum_roles w [] = refl
sum_roles w (e ∷ g) = rw (sum_roles w g)

pub set_roles : (g : List Entry) → entries_roles g ≡ set_of (role_list g)
set_roles [] = refl
set_roles (e ∷ g) = rw (set_roles g)

-- each role of the list has weight
abbrev pub Heavy : List ℕ → List ℕ → Type 0
Heavy w [] = Unit {0}
Heavy w (r ∷ z) = (0 < get_or w r 0) × Heavy w z

module _ (sets w : List ℕ) where
  -- entries by rising user, of roles below d where they have weight, stand the other way round behind those of h
  pub rises_stands : (d from : ℕ) → ((r : ℕ) → r < 8 → 0 < get_or w r 0 → r < d) →
      (g h : List Entry) → Rises sets w from g → Stands sets d h → end_of h ≤ from → Stands sets d (turned g h)
  rises_stands d from roles [] h r s l = s
  rises_stands d from roles (e ∷ g) h r s l =
      let m = r.1 in
      let acts : Acts sets d e = record { role = roles e.role m.role m.heavy; acting = m.acting } in
      rises_stands d (e.user + 1) roles g (e ∷ h) r.2 (le_trans l r.0, acts, s) (le_refl (e.user + 1))

  -- the roles turned round are below d too
  pub rises_roles : (d from : ℕ) → ((r : ℕ) → r < 8 → 0 < get_or w r 0 → r < d) →
      (g h : List Entry) → Rises sets w from g → Roles d (role_list h) → Roles d (role_list (turned g h))
  rises_roles d from roles [] h r s = s
  rises_roles d from roles (e ∷ g) h r s =
      let m = r.1 in
      rises_roles d (e.user + 1) roles g (e ∷ h) r.2 (roles e.role m.role m.heavy, s)

  -- a rising list rises from any earlier user on
  pub rises_less : (a b : ℕ) (g : List Entry) → b ≤ a → Rises sets w a g → Rises sets w b g
  rises_less a b [] h r = tt
  rises_less a b (e ∷ g) h r = (le_trans h r.0, r.1, r.2)

  -- entries that stand, whose roles have weight, rise the other way round before those of h
  pub stands_rises : (d : ℕ) → d ≤ 8 → (g h : List Entry) → Stands sets d g → Heavy w (role_list g) →
      Rises sets w (end_of g) h → Rises sets w 0 (turned g h)
  stands_rises d most [] h s heavy r = r
  stands_rises d most (e ∷ g) h s heavy r =
      let role = s.1.role in
      stands_rises d most g (e ∷ h) s.2 heavy.1
      (s.0, record { role = omega arith; acting = s.1.acting; heavy = heavy.0 }, r)
