-- A group: entries of 2 bytes, user and role acted in; refusals 12 to 17 and 24 over what the chain is handed.
use Rattle.std.specs.Prelude.{ℕ, ◌+◌, ◌*◌, ◌/◌, ◌%◌, Bool, ◌||◌, not, cond, List, length, get_or, ltb, eqb}
use Rattle.folds.specs.Below.{any_below, sum_below}
use Rattle.folds.specs.Sets.{set_below}

-- the number of whole entries, attribute 0
abbrev pub entry_count : List ℕ → ℕ
entry_count g = length g / 2

abbrev pub entry_user : List ℕ → ℕ → ℕ
entry_user g i = get_or g (2 * i) 0

abbrev pub entry_role : List ℕ → ℕ → ℕ
entry_role g i = get_or g (2 * i + 1) 0

-- the sum of the roles' weights, attribute 1
unfoldable pub sum_of : (ℕ → ℕ) → List ℕ → ℕ
unfolding sum_below
sum_of weight g = sum_below (entry_count g) (λ i. weight (entry_role g i))

-- some entry acts in role r
unfoldable pub acted_in : List ℕ → ℕ → Bool
unfolding any_below
acted_in g r = any_below (entry_count g) (λ i. eqb (entry_role g i) r)

-- the set of the roles acted in as a byte, bit r for role r, attribute 3
unfoldable pub roles_of : List ℕ → ℕ
unfolding set_below acted_in
roles_of g = set_below 8 (acted_in g)

-- refusal 12: the group's length is 0, odd or above 12
unfoldable pub length_refused : List ℕ → Bool
length_refused g = eqb (length g) 0 || (not (eqb (length g % 2) 0) || ltb 12 (length g))

-- refusal 13 of one entry: its user isn't among U users, or its role isn't below R
abbrev pub unknown : ℕ → ℕ → ℕ → ℕ → Bool
unknown U R u r = not (ltb u U) || not (ltb r R)

-- refusal 13: entry i's user isn't there, or its role
abbrev pub unknown_at : ℕ → ℕ → List ℕ → ℕ → Bool
unknown_at U R g i = unknown U R (entry_user g i) (entry_role g i)

unfoldable pub some_unknown : ℕ → ℕ → List ℕ → Bool
unfolding any_below
some_unknown U R g = any_below (entry_count g) (unknown_at U R g)

-- entry i's user also stands before it
unfoldable pub stands_before : List ℕ → ℕ → Bool
unfolding any_below
stands_before g i = any_below i (λ j. eqb (entry_user g j) (entry_user g i))

-- refusal 14: a user stands in two entries
unfoldable pub some_twice : List ℕ → Bool
unfolding any_below
some_twice g = any_below (entry_count g) (stands_before g)

-- refusal 15: an entry's user isn't eligible in its role
unfoldable pub some_ineligible : (ℕ → ℕ → Bool) → List ℕ → Bool
unfolding any_below
some_ineligible eligible g = any_below (entry_count g) (λ i. not (eligible (entry_user g i) (entry_role g i)))

-- refusal 24: the date is before the first or after the last day of an entry's user, by a test of the user
unfoldable pub some_out_of_date : (ℕ → Bool) → List ℕ → Bool
unfolding any_below
some_out_of_date out g = any_below (entry_count g) (λ i. out (entry_user g i))

-- refusal 16: an entry's role has weight 0
unfoldable pub some_weightless : (ℕ → ℕ) → List ℕ → Bool
unfolding any_below
some_weightless weight g = any_below (entry_count g) (λ i. eqb (weight (entry_role g i)) 0)

-- the first of refusals 12 to 15 that applies, or 0: who stands in the group, with U users and R roles and who is
-- eligible in which role
unfoldable pub members_refusal : ℕ → ℕ → (ℕ → ℕ → Bool) → List ℕ → ℕ
members_refusal U R eligible g =
    cond (length_refused g) 12
    (cond (some_unknown U R g) 13
    (cond (some_twice g) 14
    (cond (some_ineligible eligible g) 15 0)))

-- the first of refusals 16 and 17 that applies, or 0: 16 by the roles' weights, 17 by the condition on number, sum and
-- set
abbrev pub weighed_refusal : (ℕ → ℕ) → (ℕ → ℕ → ℕ → Bool) → List ℕ → ℕ
weighed_refusal weight condition g =
    cond (some_weightless weight g) 16 (cond (condition (entry_count g) (sum_of weight g) (roles_of g)) 0 17)

-- the first of refusals 12 to 15 and 24 that applies, before what is left: 12 to 15 as above, then 24 by a test of the
-- user
abbrev pub present : ℕ → ℕ → (ℕ → ℕ → Bool) → (ℕ → Bool) → List ℕ → ℕ → ℕ
present U R eligible out g left =
    cond (not (eqb (members_refusal U R eligible g) 0)) (members_refusal U R eligible g)
    (cond (some_out_of_date out g) 24 left)

-- the first of refusals 12 to 15, 24, 16 and 17 that applies, or 0
unfoldable pub group_refusal : ℕ → ℕ → (ℕ → ℕ → Bool) → (ℕ → Bool) → (ℕ → ℕ) → (ℕ → ℕ → ℕ → Bool) → List ℕ → ℕ
group_refusal U R eligible out weight condition g =
    present U R eligible out g (weighed_refusal weight condition g)
