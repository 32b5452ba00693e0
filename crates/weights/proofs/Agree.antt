-- The rules read fields only: tables whose fields agree, but for what a rule doesn't read, give equal results.
use Prim.Native.Nat.{ℕ, zero, suc, ◌+◌, ◌<◌, ◌≤◌}
use mathlib.Core.Bool.{Bool, ◌&&◌}
use mathlib.Core.Path.{◌≡◌, refl, ap}
use mathlib.Core.Logic.{⊎_elim}
use mathlib.Core.List.{List, [], ◌∷◌}
use native.Mathlib.Omega.{arith}
use native.Mathlib.Nat.{le_refl}
use borrow.Author.Tests.{eqb-true, ltb-true}
use lib.Dec.{ltb, eqb}
use Rattle.folds.specs.Below.{any_below}
use Rattle.folds.proofs.Bools.{met_or_not}
use Rattle.folds.proofs.Tests.{all_same, any_same, first_same}
use Rattle.folds.proofs.Numbers.{sum_same}
use Rattle.reader.specs.Tables.{hierarchy, contexts, policies, role_count, table_of, record_count}
use Rattle.reader.specs.Fields.{senior, junior}
use Rattle.reader.specs.Fields.{context_number, context_length, context_parameter, context_operator, context_value}
use Rattle.reader.specs.Fields.{policy_role, policy_permission, policy_weight, policy_type, policy_context}
use Rattle.reader.specs.Fields.{policy_rank, policy_issue_day}
use Rattle.weights.specs.declared.Context.{Context}
use Rattle.weights.specs.Contexts.{context_condition_holds, context_clause_holds, clause_of_holds, context_holds}
use Rattle.weights.specs.Seniority.{chain_within, senior_to}
use Rattle.resolution.specs.Resolution.{rule_before, goes_before}
use Rattle.weights.specs.Weights.{candidate, is_chosen, chosen, chosen_weight, any_type, type_one, own, inh, weight}

-- H records that agree
pub record SameHierarchy (h k : List ℕ) : Type 0 where
  pub count : record_count hierarchy h ≡ record_count hierarchy k
  pub from : (i : ℕ) → i < record_count hierarchy h → senior h i ≡ senior k i
  pub to : (i : ℕ) → i < record_count hierarchy h → junior h i ≡ junior k i

-- C records that agree
pub record SameContexts (c d : List ℕ) : Type 0 where
  pub count : record_count contexts c ≡ record_count contexts d
  pub number : (i : ℕ) → i < record_count contexts c → context_number c i ≡ context_number d i
  pub length : (i : ℕ) → i < record_count contexts c → context_length c i ≡ context_length d i
  pub parameter : (i j : ℕ) → i < record_count contexts c → j < context_length c i →
      context_parameter c i j ≡ context_parameter d i j
  pub operator : (i j : ℕ) → i < record_count contexts c → j < context_length c i →
      context_operator c i j ≡ context_operator d i j
  pub value : (i j : ℕ) → i < record_count contexts c → j < context_length c i →
      context_value c i j ≡ context_value d i j

-- A records that agree but for their weights
pub record SameChoice (a d : List ℕ) : Type 0 where
  pub count : record_count policies a ≡ record_count policies d
  pub role : (i : ℕ) → i < record_count policies a → policy_role a i ≡ policy_role d i
  pub permission : (i : ℕ) → i < record_count policies a → policy_permission a i ≡ policy_permission d i
  pub type : (i : ℕ) → i < record_count policies a → policy_type a i ≡ policy_type d i
  pub context : (i : ℕ) → i < record_count policies a → policy_context a i ≡ policy_context d i
  pub rank : (i : ℕ) → i < record_count policies a → policy_rank a i ≡ policy_rank d i
  pub day : (i : ℕ) → i < record_count policies a → policy_issue_day a i ≡ policy_issue_day d i

-- bases whose fields agree, as far as weights read them
pub record SameWeighing (b d : List ℕ) : Type 0 where
  pub roles : role_count b ≡ role_count d
  pub hierarchy : SameHierarchy (table_of b 0) (table_of d 0)
  pub contexts : SameContexts (table_of b 4) (table_of d 4)
  pub policies : SameChoice (table_of b 5) (table_of d 5)
  pub weights : (i : ℕ) → i < record_count 5 (table_of b 5) →
      policy_weight (table_of b 5) i ≡ policy_weight (table_of d 5) i

-- chains of at most n records
same_chain : (h k : List ℕ) → SameHierarchy h k → (n s j : ℕ) → chain_within n h s j ≡ chain_within n k s j
unfolding chain_within
same_chain h k e zero s j = refl
same_chain h k e (suc n) s j =
    rw (← e.count)
    (any_same _ _ (record_count hierarchy h)
    (λ i l. rw (e.from i l, e.to i l, same_chain h k e n (junior k i) j)))

-- the same roles are senior
pub same_senior : (h k : List ℕ) → SameHierarchy h k → (s j : ℕ) → senior_to h s j ≡ senior_to k s j
unfolding senior_to
same_senior h k e s j = same_chain h k e 8 s j

module _ (at : Context) (c d : List ℕ) (e : SameContexts c d) where
  -- a clause holds by both tables or by neither
  same_clause : (i : ℕ) → i < record_count contexts c → context_clause_holds at c i ≡ context_clause_holds at d i
  unfolding context_clause_holds context_condition_holds
  same_clause i l =
      rw (← e.length i l)
      (all_same _ _ (context_length c i)
      (λ j m. rw (e.parameter i j l m, e.operator i j l m, e.value i j l m)))

  -- the same context numbers hold
  pub same_context : (n : ℕ) → context_holds at c n ≡ context_holds at d n
  unfolding context_holds
  same_context n =
      let same =
      any_same (clause_of_holds at c n) (clause_of_holds at d n) (record_count contexts c)
      (λ i l. rw (e.number i l, same_clause i l)) in
      rw (← e.count, same)

-- the rules read weight, rank and issue day of the two policies
pub same_rule : (rule : ℕ) (a d : List ℕ) (i j : ℕ) → (rule ≡ 2 → policy_weight a i ≡ policy_weight d i) →
    (rule ≡ 2 → policy_weight a j ≡ policy_weight d j) →
    policy_rank a i ≡ policy_rank d i → policy_rank a j ≡ policy_rank d j →
    policy_issue_day a i ≡ policy_issue_day d i → policy_issue_day a j ≡ policy_issue_day d j →
    rule_before rule a i j ≡ rule_before rule d i j
unfolding rule_before
same_rule rule a d i j wi wj ri rj di dj =
    rw (ri, rj, di, dj)
    (⊎_elim (λ t. let two = eqb-true rule 2 t in rw (wi two, wj two)) (λ t. rw t) (met_or_not (eqb rule 2)))

pub same_before : (rules a d : List ℕ) (i j : ℕ) → policy_weight a i ≡ policy_weight d i →
    policy_weight a j ≡ policy_weight d j → policy_rank a i ≡ policy_rank d i → policy_rank a j ≡ policy_rank d j →
    policy_issue_day a i ≡ policy_issue_day d i → policy_issue_day a j ≡ policy_issue_day d j →
    goes_before rules a i j ≡ goes_before rules d i j
unfolding goes_before
same_before [] a d i j wi wj ri rj di dj = refl
same_before (rule ∷ rules) a d i j wi wj ri rj di dj =
    rw (
      same_rule rule a d i j (λ q. wi) (λ q. wj) ri rj di dj,
      same_rule rule a d j i (λ q. wj) (λ q. wi) rj ri dj di,
      same_before rules a d i j wi wj ri rj di dj,
    )

module _ (in_force others f : ℕ → Bool) (a d : List ℕ) (r p : ℕ) (e : SameChoice a d)
    (h : (m : ℕ) → in_force m ≡ others m) where
  -- the candidates are the same, whatever the weights
  pub same_candidate : (i : ℕ) → i < record_count policies a → candidate in_force f a r p i ≡ candidate others f d r p i
  same_candidate i m = rw (e.role i m, e.permission i m, e.type i m, e.context i m, h)

  module _ (rules : List ℕ) (n : ℕ) (l : n ≤ record_count policies a)
      (w : (i : ℕ) → i < n → policy_weight a i ≡ policy_weight d i) where
    -- with equal weights the policy that counts is the same
    pub same_chosen : chosen rules in_force f a n r p ≡ chosen rules others f d n r p
    unfolding chosen is_chosen
    same_chosen =
        first_same (is_chosen rules in_force f a n r p) (is_chosen rules others f d n r p) n
        (λ i k. rw (same_candidate i (within k), over i k))
      where
        within : {i : ℕ} → i < n → i < record_count policies a
        within k = omega arith

        before : (i j : ℕ) → i < n → j < n → goes_before rules a j i ≡ goes_before rules d j i
        before i j k m =
            same_before rules a d j i (w j m) (w i k) (e.rank j (within m)) (e.rank i (within k))
            (e.day j (within m)) (e.day i (within k))

        over : (i : ℕ) → i < n →
            any_below n (λ j. candidate in_force f a r p j && goes_before rules a j i)
            ≡ any_below n (λ j. candidate others f d r p j && goes_before rules d j i)
        over i k =
            any_same (λ j. candidate in_force f a r p j && goes_before rules a j i)
            (λ j. candidate others f d r p j && goes_before rules d j i) n
            (λ j m. rw (same_candidate j (within m), before i j k m))

    -- and so is its weight
    pub same_chosen_weight : chosen_weight rules in_force f a n r p ≡ chosen_weight rules others f d n r p
    unfolding chosen_weight
    same_chosen_weight =
        rw same_chosen
        (⊎_elim (λ t. rw (t, w _ (ltb-true _ _ t))) (λ t. rw t) (met_or_not (ltb (chosen rules others f d n r p) n)))

module _ (b d : List ℕ) (e : SameWeighing b d) (rules : List ℕ) (at : Context) where
  -- the weight of the policy that counts, by either filter
  same_counted : (f : ℕ → Bool) (r p : ℕ) →
      chosen_weight rules (context_holds at (table_of b contexts)) f (table_of b policies)
      (record_count policies (table_of b policies)) r p
      ≡ chosen_weight rules (context_holds at (table_of d contexts)) f (table_of d policies)
      (record_count policies (table_of d policies)) r p
  same_counted f r p =
      rw (← e.policies.count)
      (same_chosen_weight _ _ f _ _ r p e.policies (same_context at _ _ e.contexts) rules _ (le_refl _)
      e.weights)

  -- own(r, p)
  pub same_own : (r p : ℕ) → own rules b at r p ≡ own rules d at r p
  unfolding own
  same_own r p = same_counted any_type r p

  -- inh(r, p)
  pub same_inh : (r p : ℕ) → inh rules b at r p ≡ inh rules d at r p
  unfolding inh
  same_inh r p = same_counted type_one r p

  -- bases that agree give equal weights
  pub same_weight : (r p : ℕ) → weight rules b at r p ≡ weight rules d at r p
  unfolding weight
  same_weight r p =
      rw (same_own r p, ← e.roles)
      (ap (◌+◌ (own rules d at r p))
      (sum_same _ _ (role_count b) (λ j l. rw (same_senior _ _ e.hierarchy r j, same_inh j p))))
