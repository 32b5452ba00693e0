-- What a look at a group's entries tells, entry by entry.
use Prim.Native.Nat.{ℕ, ◌+◌, ◌*◌, ◌^◌, ◌<◌, ◌≤◌}
use mathlib.Core.Bool.{Bool, true, false, not, ◌||◌, ◌&&◌, and-false}
use mathlib.Core.Logic.{◌⊎◌, ⊎_elim}
use mathlib.Core.List.{List}
use mathlib.Core.Path.{◌≡◌, sym, ap, ◌∙◌}
use native.Mathlib.Nat.{lt_of_lt_of_le}
use native.Mathlib.Numerals.{add-one}
use native.Mathlib.Omega.{arith}
use borrow.Author.Tests.{ltb-true, ltb-false, ne_eqb, not-false}
use lib.Bits.{bit_or, bit_and}
use lib.Dec.{ltb, eqb}
use lib.ListN.{get_or}
use Rattle.folds.specs.Below.{any_below}
use Rattle.folds.specs.Sets.{in_set, set_below}
use Rattle.folds.proofs.Bools.{or_right, met_or_not}
use Rattle.folds.proofs.Numbers.{sum_none, sum_more, sum_le}
use Rattle.folds.proofs.Sets.{in_none, in_or, in_and, in_added, in_below, same_members}
use Rattle.folds.proofs.Tests.{split, any_none, any_next, any_found}
use Rattle.decision.specs.Groups.{entry_count, entry_user, entry_role, unknown, unknown_at, some_unknown}
use Rattle.batch.specs.Steps.{Looked, word_at, again_at}
use Rattle.batch.specs.declared.users.Users.{Users}
use Rattle.batch.specs.declared.users.Seen.{Seen}

-- the set of those below n of which p holds, with k added
added_below : (p q : ℕ → Bool) (n k : ℕ) → k < n → ((r : ℕ) → q r ≡ (p r || eqb k r)) →
    bit_or (set_below n p) (2 ^ k) ≡ set_below n q
added_below p q n k l e =
    same_members _ _
    (λ r. in_added (set_below n p) k r ∙ ap (λ b. b || eqb k r) (in_below p n r) ∙ by r (met_or_not (ltb r n))
    ∙ ap (λ b. ltb r n && b) (sym (e r)) ∙ sym (in_below q n r))
  where
    by : (r : ℕ) → (ltb r n ≡ true) ⊎ (ltb r n ≡ false) →
        ((ltb r n && p r) || eqb k r) ≡ (ltb r n && (p r || eqb k r))
    by r h =
        ⊎_elim (λ t. rw t) (λ t. let past = ltb-false r n t in rw (t, ne_eqb k r (λ q. omega arith))) h

module _ (u : Users) (w g : List ℕ) where
  -- before the first entry
  pub looked_none : (seen : Seen) → seen.words ≡ 0 → seen.twice ≡ 0 → seen.sum ≡ 0 → seen.roles ≡ 0 →
      Looked u w g 0 seen
  looked_none seen words twice sum roles = record {
    known = λ i l. absurd (omega (arith, l));
    words = λ x. rw (words, any_none (λ i. in_set (word_at u g i) x)) (in_none x);
    twice = λ x. rw (twice, any_none (again_at u g x)) (in_none x);
    sum = sum ∙ sym (sum_none (λ i. get_or w (entry_role g i) 0));
    roles = roles ∙ same_members 0 _ (λ r. in_none r ∙ sym (in_below _ 8 r ∙ none r));
  }
    where
      none : (r : ℕ) → (ltb r 8 && any_below 0 (λ i. eqb (entry_role g i) r)) ≡ false
      none r = rw (any_none (λ i. eqb (entry_role g i) r), and-false)

  -- the role of an entry that isn't unknown
  pub role_there : (i : ℕ) → unknown_at u.user_count u.role_count g i ≡ false → entry_role g i < 8
  role_there i h =
      lt_of_lt_of_le (ltb-true _ _ (not-false _ (or_right (not (ltb (entry_user g i) u.user_count)) _ h))) u.few.1

  -- entry i, which is known, is looked at
  pub looked_more : {i : ℕ} {seen next : Seen} {user role weight bit : ℕ} → Looked u w g i seen →
      user ≡ entry_user g i → role ≡ entry_role g i → unknown_at u.user_count u.role_count g i ≡ false →
      weight ≡ get_or w role 0 → bit ≡ 2 ^ role →
      next.words ≡ bit_or seen.words (get_or u.words (8 * user + role) 0) →
      next.twice ≡ bit_or seen.twice (bit_and seen.words (get_or u.words (8 * user + role) 0)) →
      next.sum ≡ seen.sum + weight → next.roles ≡ bit_or seen.roles bit → Looked u w g (i + 1) next
  looked_more {i} {seen} d is acts there weighs one words twice sum roles = record {
    known = λ j l. split (rw add-one at l) (λ q. rw q there) (λ k. d.known j k);
    words = λ x. rw (words, in_or, d.words, is, acts) (sym (any_next (λ j. in_set (word_at u g j) x) i));
    twice = λ x. rw (twice, in_or, in_and, d.twice, d.words, is, acts) (sym (any_next (again_at u g x) i));
    sum = rw (sum, d.sum, weighs, acts) (sym (sum_more (λ j. get_or w (entry_role g j) 0) i));
    roles = rw (roles, d.roles, one, acts)
        (added_below (λ r. any_below i (λ j. eqb (entry_role g j) r)) _ 8 (entry_role g i) (role_there i there)
        (λ r. any_next (λ j. eqb (entry_role g j) r) i));
  }

  -- the sum is small where the weights are
  pub sum_low : {n : ℕ} {seen : Seen} → Looked u w g n seen → ((r : ℕ) → r < 8 → get_or w r 0 ≤ 40) →
      seen.sum ≤ n * 40
  sum_low {n} d light =
      rw d.sum
      (sum_le (λ i. get_or w (entry_role g i) 0) 40 n (λ i l. light (entry_role g i) (role_there i (d.known i l))))

  -- what is asked of an entry's user and role, widened, is asked of the entry
  pub entry_told : (i : ℕ) {user role x y : ℕ} {t : Bool} → t ≡ unknown u.user_count u.role_count x y →
      x ≡ user → y ≡ role →
      (user ≡ entry_user g i) × (role ≡ entry_role g i) → unknown_at u.user_count u.role_count g i ≡ t
  entry_told i told wide_user wide_role is = sym (rw (wide_user, wide_role, is.0, is.1) at told)

  -- an entry that is unknown
  pub unknown_found : (i : ℕ) → i < entry_count g → unknown_at u.user_count u.role_count g i ≡ true →
      some_unknown u.user_count u.role_count g ≡ true
  unfolding some_unknown
  unknown_found i l h = any_found (unknown_at u.user_count u.role_count g) (entry_count g) i l h
