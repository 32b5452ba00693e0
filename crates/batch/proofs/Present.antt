-- What a look at a group's 1 to 6 entries tells of refusals 13 to 15 and 24, and of the sum and the set of the roles.
use Prim.Native.Nat.{ℕ, ◌^◌, ◌<◌, ◌≤◌}
use mathlib.Core.Bool.{Bool, true, false, cond, ◌&&◌}
use mathlib.Core.List.{List}
use mathlib.Core.Path.{◌≡◌, refl, sym, subst, ◌∙◌}
use native.Mathlib.Nat.{lt_of_lt_of_le}
use native.Mathlib.Omega.{arith}
use borrow.Author.Tests.{eqb-true, eq-eqb, ne_eqb}
use lib.Dec.{eqb}
use lib.ListN.{get_or}
use Rattle.folds.specs.Below.{any_below}
use Rattle.folds.specs.Sets.{in_set, set_below}
use Rattle.folds.proofs.Bools.{and_left, and_right, and_both, same_test}
use Rattle.folds.proofs.Sets.{in_whole, set_lt, same_members}
use Rattle.folds.proofs.Tests.{any_each, any_found, any_same, any_some}
use Rattle.reader.specs.Tables.{user_count, role_count}
use Rattle.weights.specs.declared.Context.{Context}
use Rattle.weights.specs.Acting.{may_act}
use Rattle.decision.specs.Groups.{entry_count, entry_user, entry_role, length_refused, unknown_at, some_unknown}
use Rattle.decision.specs.Groups.{stands_before, some_twice, some_ineligible, some_out_of_date, members_refusal}
use Rattle.decision.specs.Groups.{sum_of, acted_in, roles_of}
use Rattle.decision.specs.Decision.{out_of_date, present_of}
use Rattle.decision.proofs.Granting.{one_chain, whole_length, user_known, role_known}
use Rattle.batch.specs.Asked.{Entries, WordOf}
use Rattle.batch.specs.Steps.{UsersOf, Looked, word_at}
use Rattle.batch.specs.declared.users.Users.{Users}
use Rattle.batch.specs.declared.users.Seen.{Seen}

-- of n words with a user's bit each, a bit stands in two of them exactly where a user does
module _ (n : ℕ) (user word : ℕ → ℕ) (twice : ℕ) (low : (i : ℕ) → i < n → user i < 24)
    (bits : (i : ℕ) → i < n → (x : ℕ) → x < 24 → in_set (word i) x ≡ eqb (user i) x)
    (tells : (x : ℕ) →
    in_set twice x ≡ any_below n (λ i. any_below i (λ j. in_set (word j) x) && in_set (word i) x)) where
  abbrev again : ℕ → ℕ → Bool
  again x i = any_below i (λ j. in_set (word j) x) && in_set (word i) x

  abbrev before : ℕ → Bool
  before i = any_below i (λ j. eqb (user j) (user i))

  -- bit x in two words is a user in two entries
  user_again : (x : ℕ) → x < 24 → in_set twice x ≡ true → any_below n before ≡ true
  user_again x l h =
      let (i, under, both) = any_some (again x) n (sym (tells x) ∙ h) in
      let earlier_too = any_below i (λ j. in_set (word j) x) in
      let (j, earlier, is) = any_some (λ j. in_set (word j) x) i (and_left earlier_too _ both) in
      let this = eqb-true (user i) x (sym (bits i under x l) ∙ and_right earlier_too _ both) in
      let that = eqb-true (user j) x (sym (bits j (omega arith) x l) ∙ is) in
      any_found before n i under
      (any_found (λ j. eqb (user j) (user i)) i j earlier (eq-eqb (user j) (user i) (that ∙ sym this)))

  -- and the other way round
  bit_again : any_below n before ≡ true → any_below 24 (in_set twice) ≡ true
  bit_again h =
      let (i, under, found) = any_some before n h in
      let (j, earlier, is) = any_some (λ j. eqb (user j) (user i)) i found in
      let x = user i in
      let this = bits i under x (low i under) ∙ eq-eqb x x refl in
      let that = bits j (omega arith) x (low i under) ∙ is in
      any_found (in_set twice) 24 x (low i under)
      (tells x ∙ any_found (again x) n i under (and_both (any_found (λ j. in_set (word j) x) i j earlier that) this))

  two_users : any_below 24 (in_set twice) ≡ any_below n before
  two_users =
      same_test (any_below 24 (in_set twice)) (any_below n before)
      (λ h. let (x, l, is) = any_some (in_set twice) 24 h in user_again x l is) bit_again

-- n roles below both m and 8 are a set of those below m
module _ (n m : ℕ) (role : ℕ → ℕ) (known : (i : ℕ) → i < n → (role i < m) × (role i < 8)) where
  abbrev acted : ℕ → Bool
  acted r = any_below n (λ i. eqb (role i) r)

  none_past : (k : ℕ) → ((i : ℕ) → i < n → role i < k) → (r : ℕ) → k ≤ r → acted r ≡ false
  none_past k below r past =
      any_each (λ i. eqb (role i) r) n
      (λ i l. let h = below i l in ne_eqb (role i) r (λ e. omega arith))

  set_known : set_below 8 acted < 2 ^ m
  set_known =
      subst (λ s. s < 2 ^ m)
      (same_members (set_below m acted) (set_below 8 acted)
      (λ r. in_whole acted m (none_past m (λ i l. (known i l).0)) r
      ∙ sym (in_whole acted 8 (none_past 8 (λ i l. (known i l).1)) r)))
      (set_lt acted m)

module _ {u : Users} {g b : List ℕ} {at : Context} (entries : Entries g) (are : UsersOf b at u) where
  whole : length_refused g ≡ false
  whole = whole_length g entries.whole entries.some entries.few

  -- the numbers of users and roles kept are the base's
  counted : {t : Bool} → some_unknown u.user_count u.role_count g ≡ t → some_unknown (user_count b) (role_count b) g ≡ t
  counted = rw (are.count, are.roles) (λ e. e)

  -- with an entry that is unknown
  pub present_unknown : some_unknown (user_count b) (role_count b) g ≡ true → 13 ≡ present_of b at g 0
  unfolding members_refusal
  present_unknown e = rw (whole, e)

  -- by the numbers kept
  pub present_13 : some_unknown u.user_count u.role_count g ≡ true → 13 ≡ present_of b at g 0
  present_13 e = present_unknown (counted e)

  -- where each is known
  module _ {w : List ℕ} {seen : Seen} (look : Looked u w g (entry_count g) seen) where
    known : some_unknown u.user_count u.role_count g ≡ false
    unfolding some_unknown
    known = any_each (unknown_at u.user_count u.role_count g) (entry_count g) look.known

    pub all_known : some_unknown (user_count b) (role_count b) g ≡ false
    all_known = counted known

    word_of : (i : ℕ) → i < entry_count g → WordOf b at (entry_user g i) (entry_role g i) (word_at u g i)
    word_of i l =
        are.words.each (entry_user g i) (entry_role g i) (user_known _ _ g all_known i l)
        (role_known _ _ g all_known i l)

    pub twice_is : any_below 24 (in_set seen.twice) ≡ some_twice g
    unfolding some_twice stands_before
    twice_is =
        two_users (entry_count g) (entry_user g) (word_at u g) seen.twice
        (λ i l. lt_of_lt_of_le (user_known u.user_count u.role_count g known i l) u.few.0)
        (λ i l. (word_of i l).user) look.twice

    pub unable_is : in_set seen.words 24 ≡ some_ineligible (may_act b) g
    unfolding some_ineligible
    unable_is = look.words 24 ∙ any_same _ _ (entry_count g) (λ i l. (word_of i l).unable)

    pub late_is : in_set seen.words 25 ≡ some_out_of_date (out_of_date b at) g
    unfolding some_out_of_date
    late_is = look.words 25 ∙ any_same _ _ (entry_count g) (λ i l. (word_of i l).late)

    pub roles_are : seen.roles ≡ roles_of g
    unfolding roles_of acted_in
    roles_are = look.roles

    pub roles_known : seen.roles < 2 ^ role_count b
    roles_known =
        rw look.roles
        (set_known (entry_count g) (role_count b) (entry_role g)
        (λ i l.
        let below = lt_of_lt_of_le (role_known u.user_count u.role_count g known i l) u.few.1 in
        (role_known _ _ g all_known i l, below)))

    pub sum_is : seen.sum ≡ sum_of (λ r. get_or w r 0) g
    unfolding sum_of
    sum_is = look.sum

    -- the chain of refusals, of what was seen
    pub present_seen : cond (any_below 24 (in_set seen.twice)) 14
        (cond (in_set seen.words 24) 15 (cond (in_set seen.words 25) 24 0)) ≡ present_of b at g 0
    unfolding members_refusal
    present_seen =
        rw (twice_is, unable_is, late_is)
        (sym (one_chain (length_refused g) (some_unknown (user_count b) (role_count b) g) (some_twice g)
        (some_ineligible (may_act b) g) (cond (some_out_of_date (out_of_date b at) g) 24 0)
        ∙ rw (whole, all_known)))
