-- The words of users and roles: which bits they have.
use Prim.Native.Nat.{ℕ, ◌+◌, ◌-◌, ◌*◌, ◌^◌, ◌<◌, ◌≤◌}
use mathlib.Core.Bool.{Bool, true, false, not, cond, ◌&&◌, ◌||◌, and-true, and-false, or-false, or-true}
use mathlib.Core.Logic.{⊎_elim}
use mathlib.Core.List.{List}
use mathlib.Core.Path.{◌≡◌, refl, sym, ap, ap₂, subst, ◌∙◌}
use native.Mathlib.Numerals.{add-one}
use native.Mathlib.Omega.{arith}
use borrow.Author.Tests.{ne_eqb, ltb-true, ltb-false}
use borrow.Rule.Slice.PartMut.{put_mid, same_len_mid, mid_len}
use lib.Bits.{bit_and, bit_or}
use lib.Dec.{eqb, ltb, lit<}
use lib.ListN.{length, get_or, take}
use Rattle.std.proofs.lemmas.List.{length-take-le, get_or-take, get_or_append_left, get_or-append_right}
use Rattle.folds.specs.Below.{all_below, any_below}
use Rattle.folds.specs.Sets.{in_set, set_below}
use Rattle.folds.proofs.Bools.{and_not_first, met_or_not, eqb_sym}
use Rattle.folds.proofs.Sets.{in_none, in_one, in_or, in_and, in_added, in_set_lem, in_set_high, same_members}
use Rattle.folds.proofs.Tests.{split, all_at, any_at, any_each}
use Rattle.reader.specs.Tables.{role_count}
use Rattle.weights.specs.declared.Context.{Context}
use Rattle.weights.specs.Acting.{may_act}
use Rattle.decision.specs.Decision.{out_of_date}
use Rattle.batch.specs.Asked.{UserWord, RoleWords, WordOf}

-- the set of k alone
in_bit : (k : ℕ) {s : ℕ} → s ≡ 2 ^ k → (x : ℕ) → in_set s x ≡ eqb k x
in_bit k e x = ap (λ s. in_set s x) e ∙ in_one k x ∙ eqb_sym x k

module _ {user : ℕ} {late : Bool} {bit : ℕ} (low : user < 24) (one : bit ≡ 2 ^ user) where
  pub word_in_date : late ≡ false → UserWord user late bit
  word_in_date e = record {
    user = λ x l. in_bit user one x;
    unable = in_bit user one 24 ∙ ne_eqb user 24 (λ q. omega arith);
    late_is = in_bit user one 25 ∙ ne_eqb user 25 (λ q. omega arith) ∙ sym e;
  }

  pub word_late : late ≡ true → {last : ℕ} → last ≡ 2 ^ 25 → UserWord user late (bit_or bit last)
  word_late e {last} is = record {
    user = λ x l. both x ∙ ap (λ b. eqb user x || b) (ne_eqb 25 x (λ q. omega arith)) ∙ or-false (eqb user x);
    unable = both 24 ∙ ap (λ b. b || false) (ne_eqb user 24 (λ q. omega arith));
    late_is = both 25 ∙ or-true (eqb user 25) ∙ sym e;
  }
    where
      both : (x : ℕ) → in_set (bit_or bit last) x ≡ (eqb user x || eqb 25 x)
      both x = in_or bit last x ∙ ap₂ (λ a b. a || b) (in_bit user one x) (in_bit 25 is x)

-- the word of user u for a role r: bit 24 is added where u may not act in r
abbrev by_able : ℕ → Bool → ℕ
by_able user able = cond able user (bit_or user (2 ^ 24))

module _ (b : List ℕ) (at : Context) (u r : ℕ) {user : ℕ} {late : Bool} (of : UserWord u late user)
    (days : late ≡ out_of_date b at u) {word : ℕ} where
  word_able : may_act b u r ≡ true → word ≡ user → WordOf b at u r word
  word_able may is = record {
    user = λ x l. ap (λ s. in_set s x) is ∙ of.user x l;
    unable = ap (λ s. in_set s 24) is ∙ of.unable ∙ sym (ap not may);
    late = ap (λ s. in_set s 25) is ∙ of.late_is ∙ days;
  }

  word_unable : may_act b u r ≡ false → word ≡ bit_or user (2 ^ 24) → WordOf b at u r word
  word_unable may is = record {
    user = λ x l.
        has x ∙ ap (λ t. in_set user x || t) (ne_eqb 24 x (λ q. omega arith)) ∙ or-false (in_set user x) ∙ of.user x l;
    unable = has 24 ∙ or-true (in_set user 24) ∙ sym (ap not may);
    late = has 25 ∙ or-false (in_set user 25) ∙ of.late_is ∙ days;
  }
    where
      has : (x : ℕ) → in_set word x ≡ (in_set user x || eqb 24 x)
      has x = ap (λ s. in_set s x) is ∙ in_added user 24 x

  word_for : {able : ℕ} → able ≡ set_below 8 (may_act b u) → r < 8 → word ≡ by_able user (in_set able r) →
      WordOf b at u r word
  word_for is l e =
      let may = ap (λ s. in_set s r) is ∙ in_set_lem (may_act b u) 8 r l in
      let by_may = e ∙ ap (by_able user) may in
      ⊎_elim (λ t. word_able t (by_may ∙ ap (by_able user) t)) (λ t. word_unable t (by_may ∙ ap (by_able user) t))
      (met_or_not (may_act b u r))

-- a list with a part written over, from a on: before it, and in it
module _ (a k : ℕ) (xs ys : List ℕ) (starts : a ≤ length xs) where
  before_part : (i : ℕ) → i < a → get_or (put_mid a k xs ys) i 0 ≡ get_or xs i 0
  before_part i l =
      let size = length-take-le a xs starts in
      get_or_append_left (take a xs) _ 0 i (omega arith) ∙ get_or-take a xs i 0 l

  in_part : (i : ℕ) → i < length ys → get_or (put_mid a k xs ys) (a + i) 0 ≡ get_or ys i 0
  in_part i l =
      let same : a + i - a ≡ i = omega arith in
      get_or-append_right (take a xs) _ a (a + i) 0 (length-take-le a xs starts) (omega arith)
      ∙ get_or_append_left ys _ 0 (a + i - a) (omega arith) ∙ ap (λ j. get_or ys j 0) same

-- the words of the users below n are there
pub record WordsTo (b : List ℕ) (at : Context) (n : ℕ) (words : List ℕ) : Type 0 where
  pub size : length words ≡ 192
  pub each : (u r : ℕ) → u < n → r < role_count b → WordOf b at u r (get_or words (8 * u + r) 0)

-- and those of user n
module _ {b : List ℕ} {at : Context} {n : ℕ} {words : List ℕ} (so_far : WordsTo b at n words) (there : n < 24)
    (few : role_count b ≤ 8) {late : Bool} {user able : ℕ} {part : List ℕ} (of : UserWord n late user)
    (days : late ≡ out_of_date b at n) (roles : able ≡ set_below 8 (may_act b n))
    (made : RoleWords user able part) where
  abbrev more : List ℕ
  more = put_mid (8 * n) (8 * n + 8 - 8 * n) words part

  starts : 8 * n ≤ length words
  starts = omega (arith, so_far.size)

  word_before : (u r : ℕ) → u < n → r < role_count b → WordOf b at u r (get_or more (8 * u + r) 0)
  word_before u r l m =
      subst (WordOf b at u r)
      (sym (before_part (8 * n) (8 * n + 8 - 8 * n) words part starts (8 * u + r) (omega arith))) (so_far.each u r l m)

  word_made : (r : ℕ) → r < role_count b → WordOf b at n r (get_or more (8 * n + r) 0)
  word_made r m =
      let l : r < 8 = omega arith in
      word_for b at n r of days roles l
      (in_part (8 * n) (8 * n + 8 - 8 * n) words part starts r (omega (arith, made.size)) ∙ made.each r l)

  pub words_next : WordsTo b at (n + 1) more
  words_next = record {
    size = same_len_mid (8 * n) (8 * n + 8 - 8 * n) words part
        (made.size ∙ sym (mid_len (8 * n) (8 * n + 8) words (omega (arith, so_far.size)) ∙ omega arith)) ∙ so_far.size;
    each = λ u r l m. split (rw add-one at l) (λ q. rw q (word_made r m)) (λ k. word_before u r k m);
  }

-- the bits of the 24 users
abbrev all_users : ℕ
all_users = 16777215

each_user : all_below 24 (in_set all_users) ≡ true
unfolding all_below in_set
each_user = refl

-- a word has a user's bit exactly where it meets those of all
module _ (s : ℕ) where
  pub no_user : bit_and s all_users ≡ 0 → any_below 24 (in_set s) ≡ false
  no_user e =
      any_each (in_set s) 24
      (λ r l.
      sym (and-true (in_set s r)) ∙ ap (λ t. in_set s r && t) (sym (all_at (in_set all_users) 24 each_user r l))
      ∙ sym (in_and s all_users r) ∙ ap (λ t. in_set t r) e ∙ in_none r)

  -- with no user's bit, the two have none in common
  apart : any_below 24 (in_set s) ≡ false → (r : ℕ) → (in_set s r && in_set all_users r) ≡ false
  apart none r =
      ⊎_elim
      (λ t. and_not_first (in_set all_users r) (any_at (in_set s) 24 none r (ltb-true r 24 t)))
      (λ t.
      ap (λ b. in_set s r && b) (in_set_high 24 all_users r (lit< tt) (ltb-false r 24 t)) ∙ and-false (in_set s r))
      (met_or_not (ltb r 24))

  pub some_user : (bit_and s all_users ≡ 0 → ⊥) → any_below 24 (in_set s) ≡ true
  some_user some =
      ⊎_elim
      (λ t. t)
      (λ t. absurd (some (same_members _ 0 (λ r. in_and s all_users r ∙ apart t r ∙ sym (in_none r)))))
      (met_or_not (any_below 24 (in_set s)))
