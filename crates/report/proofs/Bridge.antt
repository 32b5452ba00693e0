-- Granted groups of bytes and lists of entries by falling user stand for each other: same number, sum and set.
use Prim.Native.Nat.{ℕ, zero, suc, ◌+◌, ◌*◌, ◌^◌, ◌<◌, ◌≤◌}
use mathlib.Core.Bool.{Bool, true, false, not, ◌&&◌}
use mathlib.Core.Path.{◌≡◌, refl, sym, ap, ◌∙◌}
use mathlib.Core.List.{List, [], ◌∷◌, ◌++◌}
use native.Mathlib.Omega.{arith}
use native.Mathlib.Nat.{lt_of_lt_of_le}
use native.Mathlib.Decide.{dec_lt}
use lib.ListN.{length, get_or, length-append, get_or-append}
use lib.Seq.{get_or-append-add, get_or-append_seam}
use lib.Dec.{ltb, eqb, lit<}
use lib.Pow.{pow-lt}
use lib.Bits.{bit_or, or_comm, or_lt}
use borrow.Author.Tests.{ltb-true, lt-ltb, not-true}
use Rattle.folds.specs.Below.{any_below, sum_below}
use Rattle.folds.specs.Sets.{in_set, set_below}
use Rattle.folds.proofs.Bools.{and_left, and_right, and_both, eqb_sym}
use Rattle.folds.proofs.Tests.{split}
use Rattle.folds.proofs.Sets.{in_one, in_or, in_none, in_set_lem, set_lt, same_set, or_assoc}
use Rattle.decision.specs.Groups.{entry_count, entry_user, entry_role, acted_in, sum_of, roles_of}
use Rattle.decision.specs.Granting.{Granted}
use Rattle.multisets.specs.Rising.{Entry, May, entries_sum, entries_roles}
use Rattle.multisets.specs.Standing.{bytes_back}

-- the tables stand for who may act in which role and isn't out of date, and for the roles' weights
pub record Tables (U R : ℕ) (may : ℕ → ℕ → Bool) (out : ℕ → Bool) (weigh : ℕ → ℕ) (sets w : List ℕ) : Type 0 where
  pub acting : (u r : ℕ) → r < 8 → in_set (get_or sets u 0) r ≡ (ltb u U && (ltb r R && (may u r && not (out u))))
  pub weight : (r : ℕ) → r < R → get_or w r 0 ≡ weigh r

-- the entries the other way round: users fall along the list and lie below end, and each entry may stand there
abbrev pub Falls : List ℕ → List ℕ → ℕ → List Entry → Type 0
Falls sets w end [] = Unit {0}
Falls sets w end (e ∷ g) = (e.user < end) × May sets w e × Falls sets w e.user g

-- entry i of the bytes
abbrev entry_at : List ℕ → ℕ → Entry
entry_at t i = record { user = entry_user t i; role = entry_role t i }

-- the first n entries of the bytes, the last one first
abbrev first_of : List ℕ → ℕ → List Entry
first_of t zero = []
first_of t (suc n) = entry_at t n ∷ first_of t n

-- u is the user of no entry
abbrev Absent : ℕ → List Entry → Type 0
Absent u [] = Unit {0}
Absent u (e ∷ g) = (u ≡ e.user → ⊥) × Absent u g

-- each entry is 2 bytes
pub length_bytes : (g : List Entry) → length (bytes_back g) ≡ 2 * length g
length_bytes [] = refl
length_bytes (e ∷ g) = omega (arith, length-append (bytes_back g) (e.user ∷ e.role ∷ []), length_bytes g)

-- so the bytes of a list have as many entries as the list
pub count_bytes : (g : List Entry) → entry_count (bytes_back g) ≡ length g
count_bytes g = omega (arith, length_bytes g)

-- there are n first entries
length_first : (t : List ℕ) (n : ℕ) → length (first_of t n) ≡ n
length_first t zero = refl
length_first t (suc n) = ap suc (length_first t n)

-- bytes that follow change nothing in the entries before them
first_append : (t s : List ℕ) (n : ℕ) → 2 * n ≤ length t → first_of (t ++ s) n ≡ first_of t n
first_append t s zero h = refl
first_append t s (suc n) h =
    let user = get_or-append t s 0 (2 * n) (omega arith) in
    let role = get_or-append t s 0 (2 * n + 1) (omega arith) in
    rw (user, role, first_append t s n (omega arith))

-- the two bytes after n entries are entry n
entry_append : (t : List ℕ) (e : Entry) (n : ℕ) → length t ≡ 2 * n → entry_at (t ++ (e.user ∷ e.role ∷ [])) n ≡ e
entry_append t e n h =
    rw (← h, get_or-append_seam t e.user (e.role ∷ []) 0, get_or-append-add t (e.user ∷ e.role ∷ []) 1 0)

-- the entries of a list's bytes are the list
first_bytes : (g : List Entry) → first_of (bytes_back g) (length g) ≡ g
first_bytes [] = refl
first_bytes (e ∷ g) =
    let h = length_bytes g in
    let a = entry_append (bytes_back g) e (length g) h in
    let b = first_append (bytes_back g) (e.user ∷ e.role ∷ []) (length g) (omega arith) in
    let c = first_bytes g in
    cc

-- the sum over the first n entries, by the table and by the weights
sum_first : (w : List ℕ) (weigh : ℕ → ℕ) (t : List ℕ) (n : ℕ)
    → ((i : ℕ) → i < n → get_or w (entry_role t i) 0 ≡ weigh (entry_role t i))
    → entries_sum w (first_of t n) ≡ sum_below n (λ i. weigh (entry_role t i))
unfolding sum_below
sum_first w weigh t zero h = refl
sum_first w weigh t (suc n) h = omega (arith, sum_first w weigh t n (λ i l. h i (omega arith)), h n (omega arith))

-- a role is in the set of the first n entries exactly where one of them acts in it
in_first : (t : List ℕ) (n r : ℕ) → in_set (entries_roles (first_of t n)) r ≡ any_below n (λ i. eqb (entry_role t i) r)
unfolding any_below
in_first t zero r = in_none r
in_first t (suc n) r =
    let one = 2 ^ entry_role t n in
    let rest = entries_roles (first_of t n) in
    rw (or_comm one rest, in_or rest one r, in_first t n r, in_one (entry_role t n) r, eqb_sym r (entry_role t n))

-- roles below 8 make a set below 2 ^ 8
roles_lt : (t : List ℕ) (n : ℕ) → ((i : ℕ) → i < n → entry_role t i < 8) → entries_roles (first_of t n) < 2 ^ 8
roles_lt t zero h = lit< tt
roles_lt t (suc n) h =
    or_lt 8 (2 ^ entry_role t n) (entries_roles (first_of t n)) (pow-lt (h n (omega arith)))
    (roles_lt t n (λ i l. h i (omega arith)))

-- the set of all entries, by entries and by roles
roles_first : (t : List ℕ) → ((i : ℕ) → i < entry_count t → entry_role t i < 8) →
    entries_roles (first_of t (entry_count t)) ≡ roles_of t
unfolding roles_of acted_in
roles_first t h =
    same_set 8 (entries_roles (first_of t (entry_count t))) (set_below 8 (acted_in t))
    (roles_lt t (entry_count t) h) (set_lt (acted_in t) 8)
    (λ r l. in_first t (entry_count t) r ∙ sym (in_set_lem (acted_in t) 8 r l))

-- a union of three sets, the first two the other way round
or_swap : (a b c : ℕ) → bit_or a (bit_or b c) ≡ bit_or b (bit_or a c)
or_swap a b c = sym (or_assoc a b c) ∙ ap (λ (x : ℕ). bit_or x c) (or_comm a b) ∙ or_assoc b a c

module _ (sets w : List ℕ) where
  -- each of n falling entries lies below the end and may stand there
  falls_at : (t : List ℕ) (n end : ℕ) → Falls sets w end (first_of t n) → (i : ℕ) → i < n →
      (entry_user t i < end) × May sets w (entry_at t i)
  falls_at t zero end f i l = absurd (omega arith)
  falls_at t (suc n) end f i l =
      split l (λ q. rw q (f.0, f.1))
      (λ m. let s = falls_at t n (entry_user t n) f.2 i m in (omega (arith, s.0, f.0), s.1))

  -- and their users rise with the index
  falls_up : (t : List ℕ) (n end : ℕ) → Falls sets w end (first_of t n) → (i j : ℕ) → i < j → j < n →
      entry_user t i < entry_user t j
  falls_up t zero end f i j k l = absurd (omega arith)
  falls_up t (suc n) end f i j k l =
      split l (λ q. rw q (falls_at t n (entry_user t n) f.2 i (omega arith)).0)
      (λ m. falls_up t n (entry_user t n) f.2 i j k m)

  -- the users in the bytes of a falling list rise strictly
  pub falls_rising : (end : ℕ) (g : List Entry) → Falls sets w end g → (i j : ℕ) → i < j → j < length g →
      entry_user (bytes_back g) i < entry_user (bytes_back g) j
  falls_rising end g f = falls_up (bytes_back g) (length g) end (rw (first_bytes g) f)

  -- entries by falling user, with the same number, sum and set
  record Sorted (end : ℕ) (g : List Entry) : Type 0 where
    group : List Entry
    same_length : length group ≡ length g
    same_sum : entries_sum w group ≡ entries_sum w g
    same_roles : entries_roles group ≡ entries_roles g
    falls : Falls sets w end group
    absent : (u : ℕ) → Absent u g → Absent u group

  -- entries that fall as they stand
  as_is : {end : ℕ} {g : List Entry} → Falls sets w end g → Sorted end g
  as_is {end} {g} f = record {
    group = g;
    same_length = refl;
    same_sum = refl;
    same_roles = refl;
    falls = f;
    absent = λ u q. q;
  }

  -- an entry put in its place
  insert : (e : Entry) (g : List Entry) {end : ℕ} → e.user < end → May sets w e → Absent e.user g →
      Falls sets w end g → Sorted end (e ∷ g)
  insert e [] l m a f = as_is (l, m, tt)
  insert e (x ∷ g) {end} l m a f = go (λ q. insert e g q m a.1 f.2) (dec_lt x.user e.user)
    where
      go : (e.user < x.user → Sorted x.user (e ∷ g)) → Dec (x.user < e.user) → Sorted end (e ∷ x ∷ g)
      go rest (yes q) = as_is (l, m, (q, f.1, f.2))
      go rest (no q) =
          let s = rest (omega (arith, a.0)) in
          record {
            group = x ∷ s.group;
            same_length = ap suc s.same_length;
            same_sum = omega (arith, s.same_sum);
            same_roles =
                ap (λ (b : ℕ). bit_or (2 ^ x.role) b) s.same_roles
                ∙ or_swap (2 ^ x.role) (2 ^ e.role) (entries_roles g);
            falls = (f.0, f.1, s.falls);
            absent = λ u y. (y.1.0, s.absent u (y.0, y.1.1));
          }

  -- a user of none of the first n entries is absent
  absent_first : (t : List ℕ) (u n : ℕ) → ((i : ℕ) → i < n → u ≡ entry_user t i → ⊥) → Absent u (first_of t n)
  absent_first t u zero h = tt
  absent_first t u (suc n) h = (h n (omega arith), absent_first t u n (λ i l. h i (omega arith)))

  -- the first n entries by falling user
  sort : (t : List ℕ) (end n : ℕ) → ((i : ℕ) → i < n → entry_user t i < end)
      → ((i : ℕ) → i < n → May sets w (entry_at t i))
      → ((i j : ℕ) → i < j → j < n → entry_user t i ≡ entry_user t j → ⊥) → Sorted end (first_of t n)
  sort t end zero l m d = as_is tt
  sort t end (suc n) l m d =
      let s = sort t end n (λ i k. l i (omega arith)) (λ i k. m i (omega arith)) (λ i j k h. d i j k (omega arith)) in
      let a = absent_first t (entry_user t n) n (λ i k e. d i n k (omega arith) (sym e)) in
      let new = s.absent (entry_user t n) a in
      let z = insert (entry_at t n) s.group (l n (omega arith)) (m n (omega arith)) new s.falls in
      record {
        group = z.group;
        same_length = z.same_length ∙ ap suc s.same_length;
        same_sum = omega (arith, z.same_sum, s.same_sum);
        same_roles = z.same_roles ∙ ap (λ (b : ℕ). bit_or (2 ^ (entry_role t n)) b) s.same_roles;
        falls = z.falls;
        absent = λ u q. z.absent u (q.0, s.absent u q.1);
      }

-- user u may stand in a group in role r
pub record MayStand (U R : ℕ) (may : ℕ → ℕ → Bool) (out : ℕ → Bool) (weigh : ℕ → ℕ) (u r : ℕ) : Type 0 where
  pub user : u < U
  pub role : r < R
  pub acting : may u r ≡ true
  pub days : out u ≡ false
  pub heavy : 0 < weigh r

module _ {U R : ℕ} {may : ℕ → ℕ → Bool} {out : ℕ → Bool} {weigh : ℕ → ℕ} {sets w : List ℕ}
    (condition : ℕ → ℕ → ℕ → Bool) (tables : Tables U R may out weigh sets w) where
  -- what the tables say of an entry that may stand in a group
  entry_may : (e : Entry) → May sets w e → MayStand U R may out weigh e.user e.role
  entry_may e m =
      let u = e.user in
      let r = e.role in
      let all : (ltb u U && (ltb r R && (may u r && not (out u)))) ≡ true =
      sym (tables.acting u r m.role) ∙ m.acting in
      let past_user = and_right (ltb u U) _ all in
      let past_role = and_right (ltb r R) _ past_user in
      let low : r < R = ltb-true _ _ (and_left (ltb r R) _ past_user) in
      record {
        user = ltb-true _ _ (and_left (ltb u U) _ all);
        role = low;
        acting = and_left (may u r) _ past_role;
        days = not-true _ (and_right (may u r) _ past_role);
        heavy = omega (arith, m.heavy, tables.weight r low);
      }

  -- a falling list of entries that meets the condition is a granted group, by rising user
  pub falls_granted : (end : ℕ) (g : List Entry) → 1 ≤ length g → length g ≤ 6 → Falls sets w end g
      → condition (length g) (entries_sum w g) (entries_roles g) ≡ true
      → Granted U R may out weigh condition (bytes_back g)
  unfolding sum_of
  falls_granted end g some few f h = record {
    whole = omega (arith, length_bytes g, n);
    some = omega (arith, n);
    few = omega (arith, n);
    user = λ i l. (at i l).user;
    role = λ i l. (at i l).role;
    different = λ i j k l e. omega (arith, falls_up sets w bytes (entry_count bytes) end falling i j k l);
    acting = λ i l. (at i l).acting;
    days = λ i l. (at i l).days;
    heavy = λ i l. (at i l).heavy;
    holds = rw (← sum, ← roles, first, n) h;
  }
    where
      bytes : List ℕ
      bytes = bytes_back g

      n : entry_count bytes ≡ length g
      n = count_bytes g

      first : first_of bytes (entry_count bytes) ≡ g
      first = rw n (first_bytes g)

      falling : Falls sets w end (first_of bytes (entry_count bytes))
      falling = rw first f

      allowed : (i : ℕ) → i < entry_count bytes → May sets w (entry_at bytes i)
      allowed i l = (falls_at sets w bytes (entry_count bytes) end falling i l).1

      at : (i : ℕ) → i < entry_count bytes → MayStand U R may out weigh (entry_user bytes i) (entry_role bytes i)
      at i l = entry_may (entry_at bytes i) (allowed i l)

      sum : entries_sum w (first_of bytes (entry_count bytes)) ≡ sum_of weigh bytes
      sum = sum_first w weigh bytes (entry_count bytes) (λ i l. tables.weight (entry_role bytes i) (at i l).role)

      roles : entries_roles (first_of bytes (entry_count bytes)) ≡ roles_of bytes
      roles = roles_first bytes (λ i l. (allowed i l).role)

  -- every granted list has a falling list of entries with the same number, sum and set
  pub granted_falls : R ≤ 8 → (t : List ℕ) → Granted U R may out weigh condition t
      → (g : List Entry) × (length g ≡ entry_count t) × Falls sets w U g × (entries_sum w g ≡ sum_of weigh t)
      × (entries_roles g ≡ roles_of t)
  unfolding sum_of
  granted_falls small t d =
      let s = sort sets w t U (entry_count t) d.user each d.different in (
        s.group,
        s.same_length ∙ length_first t (entry_count t),
        s.falls,
        s.same_sum ∙ sum_first w weigh t (entry_count t) (λ i l. tables.weight (entry_role t i) (d.role i l)),
        s.same_roles ∙ roles_first t (λ i l. lt_of_lt_of_le (d.role i l) small),
      )
    where
      each : (i : ℕ) → i < entry_count t → May sets w (entry_at t i)
      each i l =
          let r : entry_role t i < 8 = lt_of_lt_of_le (d.role i l) small in
          record {
            role = r;
            acting =
                tables.acting (entry_user t i) (entry_role t i) r
                ∙ and_both (lt-ltb _ _ (d.user i l))
                (and_both (lt-ltb _ _ (d.role i l)) (and_both (d.acting i l) (ap not (d.days i l))));
            heavy = omega (arith, d.heavy i l, tables.weight (entry_role t i) (d.role i l));
          }
