-- Two tables A that agree but for their weights: by the rules of every list, and without one, the weight that counts
-- shifts by at most what a candidate's weight does. Where another policy is chosen than before, rule 2 was asked
-- between the two, so each is at most as heavy as the other where it is chosen.
use Prim.Native.Nat.{ℕ, ◌≤◌, ◌<◌}
use mathlib.Core.Bool.{Bool, true, false, ◌||◌, cond}
use mathlib.Core.List.{List, [], ◌∷◌}
use mathlib.Core.Logic.{◌⊎◌, inl, inr, ⊎_elim}
use mathlib.Core.Path.{◌≡◌, refl, sym, ◌∙◌}
use native.Mathlib.Omega.{arith}
use native.Mathlib.Nat.{le_refl}
use borrow.Author.Tests.{eqb-true, eqb-false, ltb-true, ltb-false}
use lib.Dec.{eqb, ltb}
use Rattle.folds.specs.Below.{any_below}
use Rattle.folds.proofs.Bools.{met_or_not, clash}
use Rattle.folds.proofs.Tests.{any_same, any_at}
use Rattle.reader.specs.Tables.{policies, record_count}
use Rattle.reader.specs.Fields.{policy_weight, policy_rank, policy_issue_day}
use Rattle.resolution.specs.Resolution.{rule_before, goes_before}
use Rattle.weights.specs.Weights.{candidate, chosen_weight}
use Rattle.weights.proofs.Agree.{SameChoice, same_rule, same_candidate}
use Rattle.resolution.proofs.Order.{one_before}
use Rattle.weights.proofs.Foremost.{Foremost, chosen_found}
use Rattle.weights.proofs.Choice.{chosen_zero, chosen_weighs}
use Rattle.shift.specs.Shift.{distance}

-- what an order of two says, made of a rule's and of what is left to the rules behind it
met_by_lem : (x y left : Bool) → cond (x || y) x left ≡ true → (x ≡ true) ⊎ (y ≡ false)
met_by_lem true y left h = inl refl
met_by_lem false true left h = clash false h refl
met_by_lem false false left h = inr refl

unmet_by : (x y left : Bool) → cond (x || y) x left ≡ false → x ≡ false
unmet_by true y left h = h
unmet_by false y left h = refl

-- a rule that says the same of both tables doesn't make the difference
passed_on : (x y : Bool) {u v : Bool} → cond (x || y) x u ≡ true → cond (x || y) x v ≡ false →
    (u ≡ true) × (v ≡ false)
passed_on true y h k = clash true refl k
passed_on false true h k = clash false h refl
passed_on false false h k = (h, k)

-- where rule 2 is asked, who goes before isn't the heavier, and who doesn't isn't the lighter
not_heavier : (x y : ℕ) (left : Bool) → cond (ltb x y || ltb y x) (ltb x y) left ≡ true → x ≤ y
not_heavier x y left h =
    ⊎_elim (λ t. omega (arith, ltb-true x y t)) (λ t. ltb-false y x t) (met_by_lem (ltb x y) (ltb y x) left h)

not_lighter : (x y : ℕ) (left : Bool) → cond (ltb x y || ltb y x) (ltb x y) left ≡ false → y ≤ x
not_lighter x y left h = ltb-false x y (unmet_by (ltb x y) (ltb y x) left h)

-- in a policy i isn't heavier than policy j, in d not lighter
abbrev Outweighed : List ℕ → List ℕ → ℕ → ℕ → Type 0
Outweighed a d i j = (policy_weight a i ≤ policy_weight a j) × (policy_weight d j ≤ policy_weight d i)

module _ (a d : List ℕ) (i j : ℕ) (rank_i : policy_rank a i ≡ policy_rank d i)
    (rank_j : policy_rank a j ≡ policy_rank d j)
    (day_i : policy_issue_day a i ≡ policy_issue_day d i) (day_j : policy_issue_day a j ≡ policy_issue_day d j) where
  -- a rule other than 2 says the same of both
  alike : (rule : ℕ) → eqb rule 2 ≡ false →
      (rule_before rule a i j ≡ rule_before rule d i j) × (rule_before rule a j i ≡ rule_before rule d j i)
  alike rule t =
      let other = eqb-false rule 2 t in (
        same_rule rule a d i j (λ q. absurd (other q)) (λ q. absurd (other q)) rank_i rank_j day_i day_j,
        same_rule rule a d j i (λ q. absurd (other q)) (λ q. absurd (other q)) rank_j rank_i day_j day_i,
      )

  -- so it is where policy i goes before policy j in a and not in d: rule 2 was asked
  overtaken : (rules : List ℕ) → goes_before rules a i j ≡ true → goes_before rules d i j ≡ false → Outweighed a d i j
  unfolding goes_before rule_before
  overtaken [] before after = clash (ltb i j) before after
  overtaken (rule ∷ rules) before after = ⊎_elim by_weight (by_another (overtaken rules)) (met_or_not (eqb rule 2))
    where
      by_weight : eqb rule 2 ≡ true → Outweighed a d i j
      by_weight t =
          let two = eqb-true rule 2 t in (
            not_heavier (policy_weight a i) (policy_weight a j) (goes_before rules a i j) (rw two at before),
            not_lighter (policy_weight d i) (policy_weight d j) (goes_before rules d i j) (rw two at after),
          )

      by_another : (goes_before rules a i j ≡ true → goes_before rules d i j ≡ false → Outweighed a d i j) →
          eqb rule 2 ≡ false → Outweighed a d i j
      by_another earlier t =
          let (forth, back) = alike rule t in
          let (u, v) = passed_on (rule_before rule d i j) (rule_before rule d j i) (rw (forth, back) at before) after in
          earlier u v

module _ (rules : List ℕ) (in_force f : ℕ → Bool) {a d : List ℕ} (r p : ℕ) (e : SameChoice a d) where
  abbrev n : ℕ
  n = record_count policies a

  same : (i : ℕ) → i < n → candidate in_force f a r p i ≡ candidate in_force f d r p i
  same = same_candidate in_force in_force f a d r p e (λ m. refl)

  -- policies chosen in the one table and in the other
  module _ {x y : ℕ} (in_a : Foremost rules in_force f a r p n x) (in_d : Foremost rules in_force f d r p n y) where
    x_in_d : candidate in_force f d r p x ≡ true
    x_in_d = sym (same x in_a.there) ∙ in_a.passes

    y_in_a : candidate in_force f a r p y ≡ true
    y_in_a = same y in_d.there ∙ in_d.passes

    -- each is at most as heavy as the other where it is chosen
    lighter : Outweighed a d x y
    lighter =
        ⊎_elim (λ t. rw (eqb-true x y t) (le_refl _, le_refl _))
        (λ t. ⊎_elim (λ s. both s (in_d.first x in_a.there x_in_d))
        (λ s. clash (goes_before rules a y x) s (in_a.first y in_d.there y_in_a))
        (one_before rules a x y (eqb-false x y t)))
        (met_or_not (eqb x y))
      where
        both : goes_before rules a x y ≡ true → goes_before rules d x y ≡ false → Outweighed a d x y
        both =
            overtaken a d x y (e.rank x in_a.there) (e.rank y in_d.there) (e.day x in_a.there)
            (e.day y in_d.there) rules

  module _ (c : ℕ) (shift : (k : ℕ) → k < n → candidate in_force f a r p k ≡ true →
      distance (policy_weight a k) (policy_weight d k) ≤ c) where
    -- the weight that counts shifts by at most c
    abbrev Within : Type 0
    Within = distance (chosen_weight rules in_force f a n r p) (chosen_weight rules in_force f d n r p) ≤ c

    some : {x y : ℕ} → Foremost rules in_force f a r p n x → Foremost rules in_force f d r p n y → Within
    some {x} {y} in_a in_d =
        let (left, right) = lighter in_a in_d in
        let of_x = shift x in_a.there in_a.passes in
        let of_y = shift y in_d.there (y_in_a in_a in_d) in
        rw (chosen_weighs rules in_force f a r p in_a, chosen_weighs rules in_force f d r p in_d) (omega arith)

    none : ((i : ℕ) → i < n → candidate in_force f a r p i ≡ false) → Within
    none off =
        let off_d = chosen_zero rules in_force f d r p n (λ i l. sym (same i l) ∙ off i l) in
        rw (chosen_zero rules in_force f a r p n off, off_d) (omega arith)

    -- so it is where no candidate's weight shifts by more
    pub chosen_within : Within
    chosen_within =
        let same_any = any_same (candidate in_force f a r p) (candidate in_force f d r p) n same in
        ⊎_elim
        (λ h. some (chosen_found rules in_force f a r p n h) (chosen_found rules in_force f d r p n (sym same_any ∙ h)))
        (λ h. none (any_at (candidate in_force f a r p) n h))
        (met_or_not (any_below n (candidate in_force f a r p)))
