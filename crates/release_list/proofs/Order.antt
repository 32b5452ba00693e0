-- The entries by rising user, where they stand so.
use Prim.Native.Nat.{ℕ, zero, suc, ◌+◌, ◌*◌, ◌<◌, ◌≤◌, zero-le}
use mathlib.Core.Bool.{cond}
use mathlib.Core.Path.{◌≡◌, refl, ap, ap₂, ◌∙◌}
use mathlib.Core.Logic.{⊎_elim}
use mathlib.Core.List.{List, [], ◌++◌, append-nil}
use native.Mathlib.Nat.{eq-or-lt_of_le, le_of_suc-le-suc}
use native.Mathlib.Omega.{arith}
use borrow.Author.Tests.{eq-eqb, ne_eqb}
use lib.Dec.{eqb}
use lib.ListN.{length, get_or}
use Rattle.folds.specs.Below.{join_below}
use Rattle.folds.proofs.Lists.{join_none, join_tail, join_same, join_length}
use Rattle.folds.proofs.Numbers.{sum_le}
use Rattle.decision.specs.Groups.{entry_count, entry_user, entry_role}
use Rattle.release_list.specs.Text.{ascii, decimal, entry_at, entries_text, line_text}
use Rattle.release_list.specs.Writing.{Written, standing_text, Rising}
use Rattle.release_list.proofs.Sizes.{entry_length, line_length}
use Rattle.release_list.proofs.Decimal.{one_length, two_length}
use Rattle.release_list.proofs.Stores.{joined}

-- the text of each entry, and its user
module _ (text : ℕ → List ℕ) (user : ℕ → ℕ) where
  -- the texts of the first n entries that are of user u
  abbrev of : ℕ → ℕ → List ℕ
  of n u = join_below n (λ i. cond (eqb (user i) u) (text i) [])

  none_of : (n u : ℕ) → ((i : ℕ) → i < n → user i ≡ u → ⊥) → of n u ≡ []
  none_of n u h =
      join_tail (λ i. cond (eqb (user i) u) (text i) []) 0 n zero-le (λ i k l. rw (ne_eqb (user i) u (h i l)))
      ∙ join_none (λ i. cond (eqb (user i) u) (text i) [])

  -- users that rise strictly and lie below m: the texts user by user are the texts as they stand
  by_user : (n m : ℕ) → ((i j : ℕ) → i < j → j < n → user i < user j) → ((i : ℕ) → i < n → user i < m) →
      join_below m (of n) ≡ join_below n text
  unfolding join_below
  by_user zero m rises below = join_tail (of zero) 0 m zero-le (λ u k l. refl)
  by_user (suc n) m rises below =
      join_tail (of (suc n)) (suc (user n)) m (below n (omega arith)) above
      ∙ ap₂ ◌++◌
      (join_same (of (suc n)) (of n) (user n) (λ u l. rw (ne_eqb (user n) u (λ q. omega arith)) (append-nil (of n u)))
      ∙ by_user n (user n) (λ i j l h. rises i j l (omega arith)) (λ i l. rises i n l (omega arith)))
      (rw (eq-eqb (user n) (user n) refl, none_of n (user n) lower))
    where
      at_most : (i : ℕ) → i < suc n → user i ≤ user n
      at_most i h =
          ⊎_elim (λ q. rw q (omega arith)) (λ l. let s = rises i n l (omega arith) in omega arith)
          (eq-or-lt_of_le (le_of_suc-le-suc h))

      above : (u : ℕ) → suc (user n) ≤ u → u < m → of (suc n) u ≡ []
      above u k l = none_of (suc n) u (λ i h q. let s = at_most i h in omega arith)

      lower : (i : ℕ) → i < n → user i ≡ user n → ⊥
      lower i h q = let s = rises i n h (omega arith) in omega arith

-- a group whose users rise strictly and are bytes is shown in the order in which it stands
pub entries_standing : (g : List ℕ) → Rising g → ((i : ℕ) → i < entry_count g → entry_user g i < 256) →
    entries_text g ≡ standing_text g
unfolding entries_text standing_text
entries_standing g r byte = by_user (entry_at g) (entry_user g) (entry_count g) 256 r.rises byte

-- and so is its line
pub line_standing : (p k : ℕ) (g : List ℕ) → Rising g → ((i : ℕ) → get_or g i 0 < 256) →
    line_text p k g
    ≡ ascii "permission " ++ (decimal p ++ (ascii ": " ++ (decimal k ++ (standing_text g ++ ascii "\n"))))
unfolding line_text
line_standing p k g r byte = rw (entries_standing g r (λ i l. byte (2 * i)))

pub line_room : (p k : ℕ) (g : List ℕ) → Rising g → ((i : ℕ) → get_or g i 0 < 256) →
    length (line_text p k g) ≡ length (decimal p) + length (decimal k) + length (standing_text g) + 14
line_room p k g r byte = rw (line_length, entries_standing g r (λ i l. byte (2 * i)))

-- a line, by its four parts
pub line_written : (p k : ℕ) (g : List ℕ) → Rising g → ((i : ℕ) → get_or g i 0 < 256) →
    {l m₁ m₂ m₃ m : List ℕ} {at colon entries end next : ℕ} →
    Written (ascii "permission " ++ decimal p) l at colon m₁ → Written (ascii ": " ++ decimal k) m₁ colon entries m₂ →
    Written (standing_text g) m₂ entries end m₃ → Written (ascii "\n") m₃ end next m →
    Written (line_text p k g) l at next m
line_written p k g r byte number count group last =
    rw (line_standing p k g r byte) (joined number (joined count (joined group last)))

-- a line of two digits, one digit and at most 6 entries of users below 100 and roles below 10 has at most 47 bytes
pub line_le : (p k : ℕ) (g : List ℕ) → p < 100 → k < 10 → Rising g → entry_count g ≤ 6 →
    ((i : ℕ) → i < entry_count g → entry_user g i < 100) → ((i : ℕ) → i < entry_count g → entry_role g i < 10) →
    length (line_text p k g) ≤ 47
unfolding standing_text
line_le p k g lp lk r few user role =
    let a = two_length p lp in
    let b = one_length k lk in
    let e = line_length p k g in
    let standing = entries_standing g r (λ i l. let h = user i l in omega arith) in
    let f = ap length standing ∙ join_length (entry_at g) (entry_count g) in
    let most = sum_le (λ i. length (entry_at g i)) 5 (entry_count g) five in
    omega arith
  where
    five : (i : ℕ) → i < entry_count g → length (entry_at g i) ≤ 5
    five i l =
        let u = two_length (entry_user g i) (user i l) in
        let v = one_length (entry_role g i) (role i l) in
        let t = entry_length (entry_user g i) (entry_role g i) in
        omega arith
