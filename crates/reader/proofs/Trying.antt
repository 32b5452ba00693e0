-- How many codes the check of a parameter tries (02, Six): the three cases as laws, and the rest that is 1 for the
-- first time.
use Prim.Native.Nat.{ℕ, zero, suc, ◌+◌, ◌^◌, ◌<◌, ◌≤◌}
use mathlib.Core.Bool.{Bool, true, false, ◌||◌, not, cond}
use mathlib.Core.List.{List}
use mathlib.Core.Path.{◌≡◌, refl, sym, ap, ◌∙◌}
use mathlib.Core.Logic.{⊎_elim}
use native.Mathlib.Numerals.{add-one}
use native.Mathlib.Nat.{not-suc-le-zero, eq-or-lt_of_le, le_of_suc-le-suc, mod-eq_of_lt}
use native.Mathlib.Omega.{arith}
use lib.Dec.{ltb, eqb}
use borrow.Author.Tests.{eqb-true, eq-eqb, lt-ltb, le-ltb}
use Rattle.folds.specs.Below.{any_below}
use Rattle.folds.specs.Sets.{in_set}
use Rattle.folds.proofs.Bools.{met_or_not, never_met, clash}
use Rattle.folds.proofs.Tests.{split, any_found, any_same, first_lt, first_at}
use Rattle.folds.proofs.Sets.{in_set_below, same_set}
use Rattle.reader.specs.Tables.{users, record_count}
use Rattle.reader.specs.Fields.{parameter, first_day, last_day}
use Rattle.reader.specs.Rules.{users_bad}
use Rattle.reader.specs.Codes.{code_product, parameter_ok, code_divides, roles_of_product, highest_below, codes_tried}
use Rattle.reader.specs.Codes.{roles_read, parameter_answer}
use Rattle.reader.proofs.Parameter.{rest_of, rest_none, rest_left, rest_one, rest_divides, code_big}
use Rattle.reader.proofs.Parameter.{product_divides}

-- no code divides 1
one_undivided : (r : ℕ) → r < 8 → code_divides r 1 ≡ false
one_undivided r h = rw (mod-eq_of_lt (code_big r h))

-- once 1 is left, the next code leaves it
next_one : (r x : ℕ) → r < 8 → rest_of r x ≡ 1 → rest_of (suc r) x ≡ 1
next_one r x h one =
    let undivided : code_divides r (rest_of r x) ≡ false = ap (code_divides r) one ∙ one_undivided r h in
    rw (← add-one r) (rest_left r x undivided ∙ one)

-- and all codes to come
rest_stays : (n R x : ℕ) → n ≤ R → R ≤ 8 → rest_of n x ≡ 1 → rest_of R x ≡ 1
rest_stays n zero x l h e = let none : n ≡ 0 = omega arith in rw none at e
rest_stays n (suc R) x l h e =
    ⊎_elim (λ q. rw q at e) (λ k. next_one R x h (rest_stays n R x (le_of_suc-le-suc k) (omega arith) e))
    (eq-or-lt_of_le l)

-- 1 is left of a product
left_one : (n x : ℕ) → n ≤ 8 → parameter_ok n x ≡ true → rest_of n x ≡ 1
left_one n x h ok = eqb-true _ _ (rest_one n x h ∙ ok)

-- a product of codes of roles below n is one of roles below R, if these are as many or more
pub wider : (n R x : ℕ) → n ≤ R → R ≤ 8 → parameter_ok n x ≡ true → parameter_ok R x ≡ true
wider n R x l h ok =
    sym (rest_one R x h) ∙ eq-eqb _ _ (rest_stays n R x l h (left_one n x (omega arith) ok))

-- 1 is a product of no codes
ok_one : (R : ℕ) → R ≤ 8 → parameter_ok R 1 ≡ true
ok_one R h = sym (rest_one R 1 h) ∙ eq-eqb _ _ (rest_stays 0 R 1 (omega arith) h (rest_none 1))

-- none for 1
pub tried_one : (R : ℕ) → codes_tried R 1 ≡ 0
unfolding codes_tried
tried_one R = refl

-- R for a parameter that gets 5
pub tried_refused : (R x : ℕ) → R ≤ 8 → parameter_ok R x ≡ false → codes_tried R x ≡ R
unfolding codes_tried
tried_refused R x h bad =
    let one : eqb x 1 ≡ true → parameter_ok R x ≡ true = λ e. rw (eqb-true x 1 e) (ok_one R h) in
    let other : eqb x 1 ≡ false = never_met _ (λ e. clash _ (one e) bad) in
    rw (other, bad)

-- of an accepted parameter, the set of roles is one below R, and the parameter is its product
set_product : (R x : ℕ) → parameter_ok R x ≡ true →
    (roles_of_product R x < 2 ^ R) × (x ≡ code_product R (roles_of_product R x))
unfolding parameter_ok roles_of_product
set_product R x ok =
    let p : ℕ → Bool = λ s. eqb x (code_product R s) in
    let low = first_lt p (2 ^ R) ok in
    (low, eqb-true _ _ (first_at p (2 ^ R) low))

-- in it are the roles whose codes divide the parameter
in_roles : (R x k : ℕ) → R ≤ 8 → parameter_ok R x ≡ true → k < R → in_set (roles_of_product R x) k ≡ code_divides k x
in_roles R x k h ok l =
    let (_, whole) = set_product R x ok in
    sym (ap (code_divides k) whole ∙ product_divides R (roles_of_product R x) k h l)

-- the highest role is the one in the set above which there is none
highest_is : (n s r : ℕ) → r < n → in_set s r ≡ true → ((k : ℕ) → r < k → k < n → in_set s k ≡ false) →
    highest_below n s ≡ r
unfolding highest_below
highest_is zero s r l m none = elim (not-suc-le-zero l) [ ]
highest_is (suc n) s r l m none =
    split l (λ e. rw (← e, m))
    (λ k. rw (none n k (omega arith)) (highest_is n s r k m (λ j above low. none j above (omega arith))))

-- else the number of the highest role held plus one
pub tried_held : (R x r : ℕ) → R ≤ 8 → r < R → parameter_ok R x ≡ true → code_divides r x ≡ true →
    ((k : ℕ) → r < k → k < R → code_divides k x ≡ false) → codes_tried R x ≡ r + 1
unfolding codes_tried
tried_held R x r h low ok held none =
    rw (other, ok, highest_is R _ r low (in_roles R x r h ok low ∙ held) above)
  where
    above : (k : ℕ) → r < k → k < R → in_set (roles_of_product R x) k ≡ false
    above k a l = in_roles R x k h ok l ∙ none k a l

    undivided : eqb x 1 ≡ true → code_divides r x ≡ false
    undivided e = rw (eqb-true x 1 e) (one_undivided r (omega arith))

    other : eqb x 1 ≡ false
    other = never_met _ (λ e. clash _ held (undivided e))

-- the same by any set of roles whose product the parameter is
pub tried_highest : (R x s r : ℕ) → R ≤ 8 → s < 2 ^ R → x ≡ code_product R s → in_set s r ≡ true →
    ((k : ℕ) → r < k → in_set s k ≡ false) → codes_tried R x ≡ r + 1
unfolding parameter_ok
tried_highest R x s r h l whole m none =
    let low : r < R = in_set_below R s r l m in
    let ok = any_found (λ t. eqb x (code_product R t)) (2 ^ R) s l (eq-eqb _ _ whole) in
    tried_held R x r h low ok (divisor r low ∙ m) (λ k above there. divisor k there ∙ none k above)
  where
    divisor : (k : ℕ) → k < R → code_divides k x ≡ in_set s k
    divisor k there = ap (code_divides k) whole ∙ product_divides R s k h there

-- there is just one set of roles below R whose product a parameter is
pub set_is : (R s : ℕ) → R ≤ 8 → s < 2 ^ R → roles_of_product R (code_product R s) ≡ s
unfolding parameter_ok
set_is R s h l =
    let x : ℕ = code_product R s in
    let ok = any_found (λ t. eqb x (code_product R t)) (2 ^ R) s l (eq-eqb x x refl) in
    let (low, _) = set_product R x ok in
    same_set R _ s low l (λ r there. in_roles R x r h ok there ∙ product_divides R s r h there)

-- so many roles as a base can have are read as they are
read_few : (R : ℕ) → R ≤ 8 → roles_read R ≡ R
read_few R h = rw (le-ltb _ _ h)

-- the answer for so many roles
pub answer_few : (R x : ℕ) → R ≤ 8 →
    parameter_answer R x ≡ record { refusal = cond (parameter_ok R x) 0 5; count = codes_tried R x }
unfolding parameter_answer
answer_few R x h = rw (read_few R h)

-- and for more: that for eight
pub answer_more : (n x : ℕ) → 8 < n → parameter_answer n x ≡ parameter_answer 8 x
unfolding parameter_answer
answer_more n x h = rw (lt-ltb _ _ h)

-- the answer by the roles as they are read
pub answer_read : {R : ℕ} (n x : ℕ) → R ≡ roles_read n → R ≤ 8 → parameter_answer R x ≡ parameter_answer n x
unfolding parameter_answer
answer_read {R} n x e few = rw (read_few R few, e)

-- refusal 5 of a base is the answer 5 to the parameter of one of its users, or a first day above the last
pub users_answered : (R : ℕ) (u : List ℕ) → R ≤ 8 →
    users_bad R u ≡
    any_below (record_count users u)
    (λ i. eqb (parameter_answer R (parameter u i)).refusal 5 || ltb (last_day u i) (first_day u i))
unfolding users_bad parameter_answer
users_answered R u h =
    any_same _ _ (record_count users u)
    (λ i l. rw (read_few R h) (by (parameter_ok R (parameter u i)) (ltb (last_day u i) (first_day u i))))
  where
    by : (ok late : Bool) → (not ok || late) ≡ (eqb (cond ok 0 5) 5 || late)
    by true late = refl
    by false late = refl

-- what the loop shows: as many codes are tried as it takes roles for a product
pub tried_least : (R x n : ℕ) → R ≤ 8 → n ≤ R → parameter_ok n x ≡ true →
    ((k : ℕ) → k < n → parameter_ok k x ≡ false) → codes_tried R x ≡ n
tried_least R x zero h l ok none =
    let one : x ≡ 1 = sym (rest_none x) ∙ left_one 0 x (omega arith) ok in
    rw one (tried_one R)
tried_least R x (suc m) h l ok none =
    rw (← add-one m) (tried_held R x m h (omega arith) (wider (suc m) R x l h ok) held above)
  where
    one : rest_of (suc m) x ≡ 1
    one = left_one (suc m) x (omega arith) ok

    unfinished : eqb (rest_of m x) 1 ≡ false
    unfinished = rest_one m x (omega arith) ∙ none m (omega arith)

    left : code_divides m (rest_of m x) ≡ false → eqb (rest_of m x) 1 ≡ true
    left d = eq-eqb _ _ (sym (rest_left m x d) ∙ rw (add-one m) one)

    held : code_divides m x ≡ true
    held =
        rest_divides m x (omega arith) ∙
        ⊎_elim (λ d. d) (λ d. clash _ (left d) unfinished) (met_or_not (code_divides m (rest_of m x)))

    above : (k : ℕ) → m < k → k < R → code_divides k x ≡ false
    above k a low =
        rest_divides k x (omega arith) ∙
        (ap (code_divides k) (rest_stays (suc m) k x a (omega arith) one) ∙ one_undivided k (omega arith))
