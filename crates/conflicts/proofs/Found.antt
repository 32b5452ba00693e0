-- What was worked out beforehand says the same as the rules: the rows of bits are those of the conflict list.
use Prim.Native.Nat.{ℕ, ◌<◌, ◌≤◌}
use mathlib.Core.Bool.{Bool, true, false, ◌&&◌, not, and-false}
use mathlib.Core.Path.{◌≡◌, refl, ◌∙◌}
use mathlib.Core.Logic.{◌⊎◌, ⊎_elim}
use mathlib.Core.List.{List}
use native.Mathlib.Omega.{arith}
use native.Mathlib.Nat.{lt_of_lt_of_le}
use borrow.Author.Tests.{eq-eqb, ne_eqb, ltb-true, leb-false, le-leb}
use lib.Bits.{bit_and}
use lib.Dec.{ltb, leb, eqb, lit<}
use lib.ListN.{get_or}
use Rattle.folds.specs.Sets.{in_set}
use Rattle.folds.proofs.Bools.{met_or_not, never_met}
use Rattle.folds.proofs.Tests.{any_found, any_same, any_tail}
use Rattle.folds.proofs.Sets.{meet_some}
use Rattle.reader.specs.Tables.{hierarchy, contexts, policies, exclusions}
use Rattle.reader.specs.Tables.{role_count, permission_count, user_count, table_of, record_count}
use Rattle.reader.specs.Fields.{policy_role, policy_permission, policy_type, policy_context}
use Rattle.reader.specs.Fields.{exclusion_first, exclusion_second}
use Rattle.reader.specs.Rules.{refusal_of}
use Rattle.reader.proofs.Frame.{roles_range, permissions_le, users_le}
use Rattle.reader.proofs.Accepted.{PolicyFine, accepted, policy_fine}
use Rattle.weights.specs.Seniority.{senior_to}
use Rattle.weights.specs.Acting.{may_act}
use Rattle.weights.specs.Setting.{ActingSets}
use Rattle.weights.proofs.Chains.{senior_down}
use Rattle.weights.proofs.MayAct.{acting_in}
use Rattle.related.specs.Related.{related}
use Rattle.conflicts.specs.Conflicts.{contradict, covers, cover_both, overlap, both_among, holds_both}
use Rattle.related.specs.Slots.{slot_of, number_at, named, Relations}
use Rattle.conflicts.specs.Rows.{Covers, Excluded}
use Rattle.conflicts.specs.Rows.{related_by, contradict_by, overlap_by, Rows, Contradictions, Overlaps, Holders}
use Rattle.related.proofs.Relating.{related_sym}

-- what agrees below n and m has the same rows
rows_same : (n m : ℕ) (p q : ℕ → ℕ → Bool) (rows : List ℕ) → ((i j : ℕ) → i < n → j < m → p i j ≡ q i j) →
    Rows n m p rows → Rows n m q rows
rows_same n m p q rows h are = record {
  row = λ i j l. are.row i j l ∙ ⊎_elim (λ e. rw (h i j l (ltb-true _ _ e))) (λ e. rw e) (met_or_not (ltb j m));
}

-- the number of a context number's slot is that number
number_slot : (n : ℕ) → (n ≤ 15) ⊎ (n ≡ 255) → (number_at (slot_of n) ≡ n) × (slot_of n < 17)
unfolding number_at slot_of
number_slot n h =
    ⊎_elim
    (λ l. rw (ne_eqb n 255 (λ q. omega arith)) (rw (ne_eqb n 16 (λ q. omega arith)) refl, omega arith))
    (λ e. rw e (refl, lit< tt)) h

module _ (c a rows : List ℕ) (names : ℕ) (rel : Relations c names rows)
    (named_is : (s : ℕ) → in_set names s ≡ named a s) where
  abbrev slot_at : ℕ → ℕ
  slot_at i = slot_of (policy_context a i)

  -- the slot of a policy's context number is named
  name_in : (i : ℕ) → i < record_count policies a → in_set names (slot_at i) ≡ true
  unfolding named
  name_in i l = named_is _ ∙ any_found (λ k. eqb (slot_at k) (slot_at i)) _ i l (eq-eqb (slot_at i) (slot_at i) refl)

  -- the rows of related slots tell whether the contexts of two policies are related
  related_rows : (i j : ℕ) → i < record_count policies a → j < record_count policies a →
      ((policy_context a i ≤ 15) ⊎ (policy_context a i ≡ 255)) →
      ((policy_context a j ≤ 15) ⊎ (policy_context a j ≡ 255)) →
      related_by rows (policy_context a i) (policy_context a j) ≡ related c (policy_context a i) (policy_context a j)
  related_rows i j li lj fi fj =
      let x = policy_context a i in
      let y = policy_context a j in
      let (ex, lx) = number_slot x fi in
      let (ey, ly) = number_slot y fj in
      ⊎_elim
      (λ e. rw e (rel.row (slot_at i) (slot_at j) lx ly ∙ rw (name_in i li, name_in j lj, e, ex, ey)))
      (λ e. let g = leb-false (slot_at i) (slot_at j) e in
      let f : leb (slot_at j) (slot_at i) ≡ true = le-leb (slot_at j) (slot_at i) (omega arith) in
      rw e (rel.row (slot_at j) (slot_at i) ly lx ∙ rw (name_in i li, name_in j lj, f, ex, ey) (related_sym c y x)))
      (met_or_not (leb (slot_at i) (slot_at j)))

module _ (b : List ℕ) (ok : refusal_of b ≡ 0) where
  abbrev h : List ℕ
  h = table_of b hierarchy

  abbrev a : List ℕ
  a = table_of b policies

  abbrev n : ℕ
  n = record_count policies a

  small : role_count b ≤ 8
  small = (roles_range b (accepted b ok).frame).1

  -- the policies of an accepted base: roles below 8, at most 16 permissions
  fine : (i : ℕ) → i < n → PolicyFine (role_count b) (permission_count b) a i
  fine i l = policy_fine _ _ a i (accepted b ok).policies l

  permission_below : (i : ℕ) → i < n → policy_permission a i < 16
  permission_below i l = lt_of_lt_of_le (fine i l).permission (permissions_le b (accepted b ok).frame)

  -- no role at R or above is covered
  covers_high : (i r : ℕ) → i < n → role_count b ≤ r → covers h a i r ≡ false
  unfolding covers
  covers_high i r l high =
      let g = (fine i l).role in
      rw (ne_eqb (policy_role a i) r (λ q. omega arith), none) (and-false (eqb (policy_type a i) 1))
    where
      none : senior_to h r (policy_role a i) ≡ false
      none =
          never_met (senior_to h r (policy_role a i))
          (λ e. let d = senior_down (role_count b) h small (accepted b ok).hierarchy r (policy_role a i) e in
          let g = (fine i l).role in
          omega arith)

  -- the sets of covered roles meet where some role is covered by both
  cover_rows : (covered : List ℕ) → Covers h a covered → (i j : ℕ) → i < n → j < n →
      not (eqb (bit_and (get_or covered i 0) (get_or covered j 0)) 0) ≡ cover_both (role_count b) h a i j
  unfolding cover_both
  cover_rows covered cov i j li lj =
      let p : ℕ → Bool = λ r. covers h a i r && covers h a j r in
      let q : ℕ → Bool = λ r. in_set (get_or covered i 0) r && in_set (get_or covered j 0) r in
      meet_some 8 (get_or covered i 0) (get_or covered j 0) (cov.small i li) (cov.small j lj)
      ∙ any_same q p 8 (λ r m. rw (cov.policy i r li m, cov.policy j r lj m))
      ∙ any_tail p (role_count b) 8 small (λ r high m. rw (covers_high i r li high))

  -- the rows of kind 1, by the rows of related slots
  pub contradictions_found : (names : ℕ) (rel rows : List ℕ) →
      Relations (table_of b contexts) names rel → ((s : ℕ) → in_set names s ≡ named (table_of b policies) s) →
      Rows (record_count policies (table_of b policies)) (record_count policies (table_of b policies))
      (contradict_by rel (table_of b policies)) rows →
      Contradictions b rows
  unfolding contradict
  contradictions_found names rel rows relations named_is =
      rows_same _ _ (contradict_by rel a) (contradict (table_of b contexts) a) rows
      (λ i j li lj. let same = related_rows (table_of b contexts) a rel names relations named_is i j li lj in
      rw (same (fine i li).context (fine j lj).context))

  -- the rows of kind 2, by the sets of excluded permissions and of covered roles
  pub overlaps_found : (apart covered rows : List ℕ) →
      Covers (table_of b hierarchy) (table_of b policies) covered → Excluded (table_of b exclusions) apart →
      Rows (record_count policies (table_of b policies)) (record_count policies (table_of b policies))
      (overlap_by apart covered (table_of b policies)) rows →
      Overlaps b rows
  unfolding overlap
  overlaps_found apart covered rows cov apart_is =
      rows_same _ _ (overlap_by apart covered a) (overlap (role_count b) h (table_of b exclusions) a) rows
      (λ i j li lj. let p = apart_is.permission _ _ (permission_below i li) (permission_below j lj) in
      rw (p, cover_rows covered cov i j li lj))

  -- the rows of kind 3, by the sets of the roles in which the users may act
  pub holders_found : (sets rows : List ℕ) → ActingSets b sets →
      Rows (user_count b) (record_count exclusions (table_of b exclusions))
      (λ u. both_among (in_set (get_or sets u 0)) (table_of b exclusions)) rows →
      Holders b rows
  unfolding holds_both both_among
  holders_found sets rows acting =
      let x = table_of b exclusions in
      rows_same _ _ (λ u. both_among (in_set (get_or sets u 0)) x) (holds_both may_act b) rows
      (λ u e l m.
      let few : u < 24 = lt_of_lt_of_le l (users_le b (accepted b ok).frame) in
      rw (acting.user u few, acting_in b ok u (exclusion_first x e), acting_in b ok u (exclusion_second x e)))
