-- The law over lists of events: a sheet holds exactly the accepted signatures not withdrawn since, and the calls answer
-- 0 exactly where an event is done by the requests' words.
use Prim.Native.Nat.{ℕ, ◌≤◌}
use mathlib.Core.Bool.{Bool, true, false, ◌||◌, not, cond, or-false}
use mathlib.Core.Path.{◌≡◌, refl, sym, ap, ◌∙◌}
use mathlib.Core.Logic.{⊎_elim}
use mathlib.Core.List.{List, [], ◌∷◌, ◌++◌, append-nil, append_assoc, map, map-append, map-map}
use native.Mathlib.Nat.{le_trans}
use lib.ListN.{length}
use lib.Seq.{append_snoc}
use lib.Dec.{eqb}
use Rattle.folds.proofs.Bools.{met_or_not}
use Rattle.sheet.specs.declared.Sheet.{Sheet}
use Rattle.sheet.specs.Signings.{Signing, signed_by, acceptable, accepted_after, accepted, sheet_with}
use Rattle.sheet.specs.Events.{Event, signs, withdraws, takes_back, taken_back, Signature, signing_of, standing}
use Rattle.sheet.specs.Events.{new_in, later, signatures_after, signatures, held_after, is_done, called, after_all}
use Rattle.sheet.specs.Events.{signing_in, answered_done}
use Rattle.sheet.proofs.Accepting.{done_acceptable, signed_accepted, signed_unaccepted, few_more, new_user}
use Rattle.sheet.proofs.Withdrawing.{withdrawn_signed, withdrawn_others}
use Rattle.sheet.proofs.Choosing.{those, another, those_all, those_few, Distinct, those_distinct, distinct_more}

-- one event more since then
taken_more : (es : List Event) (e : Event) (x : Signing) →
    taken_back (es ++ (e ∷ [])) x ≡ (taken_back es x || takes_back e x)
unfolding taken_back
taken_more [] e x = or-false (takes_back e x)
taken_more (d ∷ es) e x = by (takes_back d x) (taken_more es e x)
  where
    by : (t : Bool) → taken_back (es ++ (e ∷ [])) x ≡ (taken_back es x || takes_back e x) →
        (t || taken_back (es ++ (e ∷ [])) x) ≡ ((t || taken_back es x) || takes_back e x)
    by true h = refl
    by false h = h

-- what stands one event later is what the event doesn't take back
module _ (e : Event) where
  abbrev stays : Signing → Bool
  stays x = not (takes_back e x)

  standing_later : (xs : List Signature) → standing (map (later e) xs) ≡ those stays (standing xs)
  unfolding standing those
  standing_later [] = refl
  standing_later (x ∷ xs) =
      let next : List Signing = standing (map (later e) xs) in
      ap (λ (t : Bool). cond t next (x.signing ∷ next)) (taken_more x.since e x.signing)
      ∙ by (taken_back x.since x.signing) (takes_back e x.signing) refl (standing_later xs)
    where
      by : (t s : Bool) → takes_back e x.signing ≡ s → standing (map (later e) xs) ≡ those stays (standing xs) →
          cond (t || s) (standing (map (later e) xs)) (x.signing ∷ standing (map (later e) xs)) ≡
          those stays (cond t (standing xs) (x.signing ∷ standing xs))
      by true s h i = i
      by false true h i = rw h i
      by false false h i = rw h (ap (λ (l : List Signing). x.signing ∷ l) i)

standing_append : (xs ys : List Signature) → standing (xs ++ ys) ≡ standing xs ++ standing ys
unfolding standing
standing_append [] ys = refl
standing_append (x ∷ xs) ys = by (taken_back x.since x.signing) (standing_append xs ys)
  where
    by : (t : Bool) → standing (xs ++ ys) ≡ standing xs ++ standing ys →
        cond t (standing (xs ++ ys)) (x.signing ∷ standing (xs ++ ys)) ≡
        cond t (standing xs) (x.signing ∷ standing xs) ++ standing ys
    by true e = e
    by false e = ap (λ (l : List Signing). x.signing ∷ l) e

-- the signatures after one event more, those of `before` having been accepted
abbrev pub step : List Signature → Event → List Signature
step before e = map (later e) before ++ new_in (standing before) e

-- an accepted signing, since which nothing happened, stands
module _ (x : Signing) where
  abbrev new : Bool → List Signature
  new t = cond t (record { signing = x; since = [] } ∷ []) []

  abbrev only : Bool → List Signing
  only t = cond t (x ∷ []) []

  pub new_stands : (t : Bool) → standing (new t) ≡ only t
  unfolding standing taken_back
  new_stands true = refl
  new_stands false = refl

module _ (before : List Signature) where
  abbrev held : List Signing
  held = standing before

  pub standing_step : (e : Event) → standing (step before e) ≡ those (stays e) held ++ standing (new_in held e)
  standing_step e =
      standing_append (map (later e) before) (new_in held e)
      ∙ ap (λ (l : List Signing). l ++ standing (new_in held e)) (standing_later e before)

  -- a signing takes nothing back, and stands where it is accepted
  standing_signs : (x : Signing) → standing (step before (signs x)) ≡ held ++ only x (acceptable held x)
  unfolding takes_back new_in
  standing_signs x =
      standing_step (signs x)
      ∙ ap (λ (l : List Signing). l ++ standing (new_in held (signs x))) (those_all _ held (λ y. refl))
      ∙ ap (λ (l : List Signing). held ++ l) (new_stands x (acceptable held x))

  standing_accepted : (x : Signing) → acceptable held x ≡ true → standing (step before (signs x)) ≡ held ++ (x ∷ [])
  standing_accepted x h = standing_signs x ∙ ap (λ (t : Bool). held ++ only x t) h

  standing_unaccepted : (x : Signing) → acceptable held x ≡ false → standing (step before (signs x)) ≡ held
  standing_unaccepted x h = standing_signs x ∙ ap (λ (t : Bool). held ++ only x t) h ∙ append-nil held

  -- a withdrawal takes back what its user signed
  standing_withdraws : (u : ℕ) → standing (step before (withdraws u)) ≡ those (another u) held
  unfolding takes_back new_in standing
  standing_withdraws u = standing_step (withdraws u) ∙ append-nil (those (another u) held)

-- what a sheet can hold: at most six signings, of different users
pub record Holdable (xs : List Signing) : Type 0 where
  pub few : length xs ≤ 6
  pub distinct : Distinct xs

-- one event on a sheet that holds what stands
module _ (p : ℕ) (before : List Signature) (able : Holdable (standing before)) where
  abbrev sheet : Sheet
  sheet = sheet_with p (standing before)

  one_held : (e : Event) → (called sheet e).sheet ≡ sheet_with p (standing (step before e))
  unfolding called
  one_held (signs x) =
      ⊎_elim
      (λ h.
      signed_accepted p (standing before) x able.few h ∙ ap (sheet_with p) (sym (standing_accepted before x h)))
      (λ h.
      signed_unaccepted p (standing before) x able.few h ∙ ap (sheet_with p) (sym (standing_unaccepted before x h)))
      (met_or_not (acceptable (standing before) x))
  one_held (withdraws u) =
      withdrawn_others p (standing before) u able.few ∙ ap (sheet_with p) (sym (standing_withdraws before u))

  pub one_done : (e : Event) → eqb (called sheet e).refusal 0 ≡ is_done (standing before) e
  unfolding called is_done
  one_done (signs x) = done_acceptable p (standing before) x able.few
  one_done (withdraws u) = withdrawn_signed p (standing before) u able.few

one_holdable : (before : List Signature) (e : Event) → Holdable (standing before) → Holdable (standing (step before e))
one_holdable before (signs x) f =
    ⊎_elim
    (λ h.
    rw (standing_accepted before x h)
    (record {
      few = few_more (standing before) x h;
      distinct = distinct_more (standing before) x (new_user (standing before) x h) f.distinct;
    }))
    (λ h. rw (standing_unaccepted before x h) f)
    (met_or_not (acceptable (standing before) x))
one_holdable before (withdraws u) f =
    rw (standing_withdraws before u)
    (record {
      few = le_trans (those_few (another u) (standing before)) f.few;
      distinct = those_distinct (another u) (standing before) f.distinct;
    })

-- the signings of the signatures are those that were done
signings_step : (before : List Signature) (e : Event) →
    map signing_of (step before e) ≡
    map signing_of before ++ cond (is_done (standing before) e) (signing_in e) []
unfolding new_in is_done signing_in
signings_step before e =
    map-append signing_of (map (later e) before) (new_in (standing before) e)
    ∙ ap (λ (l : List Signing). l ++ map signing_of (new_in (standing before) e)) (map-map signing_of (later e) before)
    ∙ ap (λ (l : List Signing). map signing_of before ++ l) (by e)
  where
    first : (x : Signing) (t : Bool) → map signing_of (new x t) ≡ cond t (x ∷ []) []
    first x true = refl
    first x false = refl

    none : (t : Bool) → [] ≡ cond {A = List Signing} t [] []
    none true = refl
    none false = refl

    by : (e : Event) →
        map signing_of (new_in (standing before) e) ≡ cond (is_done (standing before) e) (signing_in e) []
    by (signs x) = first x (acceptable (standing before) x)
    by (withdraws u) = none (signed_by (standing before) u)

-- a list of events, those of `before` having been accepted
pub all_holdable : (es : List Event) (before : List Signature) → Holdable (standing before) →
    Holdable (standing (signatures_after before es))
unfolding signatures_after
all_holdable [] before f = f
all_holdable (e ∷ es) before f = all_holdable es (step before e) (one_holdable before e f)

module _ (p : ℕ) where
  -- the sheet holds what stands
  pub all_held : (es : List Event) (before : List Signature) → Holdable (standing before) →
      after_all (sheet_with p (standing before)) es ≡ sheet_with p (standing (signatures_after before es))
  unfolding after_all signatures_after
  all_held [] before f = refl
  all_held (e ∷ es) before f =
      ap (λ (s : Sheet). after_all s es) (one_held p before f e) ∙ all_held es (step before e) (one_holdable before e f)

  -- the calls answer 0 to the signings that are accepted and to no other
  pub all_done : (es : List Event) (before : List Signature) → Holdable (standing before) →
      map signing_of before ++ answered_done (sheet_with p (standing before)) es ≡
      map signing_of (signatures_after before es)
  unfolding answered_done signatures_after
  all_done [] before f = append-nil (map signing_of before)
  all_done (e ∷ es) before f =
      let sheet : Sheet = sheet_with p (standing before) in
      let accepted : List Signing = map signing_of before in
      let done : Bool → List Signing = λ t. cond t (signing_in e) [] in
      let rest : Sheet → List Signing = λ s. answered_done s es in
      sym (append_assoc accepted (done (eqb (called sheet e).refusal 0)) (rest (called sheet e).sheet))
      ∙ ap (λ (t : Bool). (accepted ++ done t) ++ rest (called sheet e).sheet) (one_done p before f e)
      ∙ ap (λ (s : Sheet). (accepted ++ done (is_done (standing before) e)) ++ rest s) (one_held p before f e)
      ∙ ap (λ (l : List Signing). l ++ rest (sheet_with p (standing (step before e)))) (sym (signings_step before e))
      ∙ all_done es (step before e) (one_holdable before e f)

-- without withdrawals, what stands and what was done are request One's accepted ones: both grow by a signing that is
-- accepted
module _ (grown : List Signature → List Signing)
    (grows : (before : List Signature) (x : Signing) →
    grown (step before (signs x)) ≡ grown before ++ only x (acceptable (standing before) x)) where
  signings_alone : (xs : List Signing) (before : List Signature) →
      grown (signatures_after before (map signs xs)) ≡ grown before ++ accepted_after (standing before) xs
  unfolding signatures_after accepted_after
  signings_alone [] before = sym (append-nil (grown before))
  signings_alone (x ∷ xs) before =
      let held : List Signing = standing before in
      let one : List Signing = only x (acceptable held x) in
      signings_alone xs (step before (signs x))
      ∙ ap (λ (l : List Signing). l ++ accepted_after (standing (step before (signs x))) xs) (grows before x)
      ∙ ap (λ (l : List Signing). (grown before ++ one) ++ accepted_after l xs) (standing_signs before x)
      ∙ by (acceptable held x)
    where
      by : (t : Bool) →
          (grown before ++ only x t) ++ accepted_after (standing before ++ only x t) xs ≡
          grown before
          ++ cond t (x ∷ accepted_after (standing before ++ (x ∷ [])) xs) (accepted_after (standing before) xs)
      by true = append_snoc (grown before) x (accepted_after (standing before ++ (x ∷ [])) xs)
      by false =
          ap (λ (l : List Signing). l ++ accepted_after (standing before ++ []) xs) (append-nil (grown before))
          ∙ ap (λ (l : List Signing). grown before ++ accepted_after l xs) (append-nil (standing before))

pub accepted_stand : (xs : List Signing) → held_after (map signs xs) ≡ accepted xs
unfolding standing
accepted_stand xs = signings_alone standing standing_signs xs []

pub accepted_done : (xs : List Signing) → map signing_of (signatures (map signs xs)) ≡ accepted xs
unfolding standing is_done signing_in
accepted_done xs = signings_alone (map signing_of) (λ before x. signings_step before (signs x)) xs []
