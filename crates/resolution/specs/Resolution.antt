-- Which policy overrides which (request Four; 004, definitions 16 and 17): by the rules of a resolution list.
use Rattle.std.specs.Prelude.{ℕ, ◌≤◌, ◌<◌, Bool, false, ◌||◌, not, cond, List, [], ◌∷◌, ◌≡◌, ltb, eqb, length, get_or}
use Rattle.folds.specs.Below.{any_below}
use Rattle.reader.specs.Fields.{policy_weight, policy_rank, policy_issue_day}
use Rattle.reader.specs.Rules.{refusal_of}

-- a rule puts policy i of the table A before policy j: 0, the later issue day goes first; 1, the larger rank number;
-- 2, the smaller weight
unfoldable pub rule_before : ℕ → List ℕ → ℕ → ℕ → Bool
rule_before rule a i j =
    cond (eqb rule 0) (ltb (policy_issue_day a j) (policy_issue_day a i))
    (cond (eqb rule 1) (ltb (policy_rank a j) (policy_rank a i))
    (cond (eqb rule 2) (ltb (policy_weight a i) (policy_weight a j)) false))

-- a rule tells policies i and j apart
abbrev pub tells_apart : ℕ → List ℕ → ℕ → ℕ → Bool
tells_apart rule a i j = rule_before rule a i j || rule_before rule a j i

-- policy i goes before policy j: the first of the rules that tells them apart decides, or else table order
unfoldable pub goes_before : List ℕ → List ℕ → ℕ → ℕ → Bool
goes_before [] a i j = ltb i j
goes_before (rule ∷ rules) a i j = cond (tells_apart rule a i j) (rule_before rule a i j) (goes_before rules a i j)

-- byte k of a list repeats a rule that stands before it
unfoldable pub repeated : List ℕ → ℕ → Bool
unfolding any_below
repeated list k = any_below k (λ j. eqb (get_or list j 0) (get_or list k 0))

-- byte k repeats a rule or is none of 0, 1 and 2
abbrev pub rule_refused : List ℕ → ℕ → Bool
rule_refused list k = repeated list k || ltb 2 (get_or list k 0)

-- a list that may be lent: 1 to 3 rules, all different
pub record Legal (list : List ℕ) : Type 0 where
  pub some : 1 ≤ length list
  pub few : length list ≤ 3
  pub rule : (k : ℕ) → k < length list → get_or list k 0 ≤ 2
  pub different : (j k : ℕ) → j < k → k < length list → get_or list j 0 ≡ get_or list k 0 → ⊥

-- refusal 22: the list is empty, longer than 3, repeats a rule or holds another byte. A list longer than 3 repeats a
-- rule or holds another byte anyway. The law `legal_list` says that the others are those that may be lent
unfoldable pub list_refused : List ℕ → Bool
unfolding any_below repeated
list_refused list =
    eqb (length list) 0 || (ltb 3 (length list) || any_below (length list) (rule_refused list))

-- where a list is lent: 1 to 9 of the base, 22 of the list, before what is left
abbrev pub lent : List ℕ → List ℕ → ℕ → ℕ
lent list b left = cond (not (eqb (refusal_of b) 0)) (refusal_of b) (cond (list_refused list) 22 left)
