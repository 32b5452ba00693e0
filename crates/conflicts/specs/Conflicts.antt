-- The conflict list: three filters over pairs of numbers, in order.
use Rattle.std.specs.Prelude.{ℕ, ◌*◌, ◌/◌, Bool, ◌&&◌, ◌||◌, not, cond, List, [], ◌∷◌, ◌++◌, length, drop, ltb, eqb}
use Rattle.folds.specs.Below.{any_below, join_below}
use Rattle.reader.specs.Tables.{hierarchy, users, contexts, policies, exclusions, role_count, table_of, record_count}
use Rattle.reader.specs.Fields.{policy_role, policy_permission, policy_weight, policy_type, policy_context}
use Rattle.reader.specs.Fields.{exclusion_kind, exclusion_first, exclusion_second}
use Rattle.reader.specs.Rules.{refusal_of}
use Rattle.reader.specs.declared.Answer.{Answer}
use Rattle.weights.specs.Seniority.{senior_to}
use Rattle.weights.specs.Acting.{may_act}
use Rattle.related.specs.Related.{related}

-- policies i and j have equal role and permission, and different weight or type
unfoldable pub disagree : List ℕ → ℕ → ℕ → Bool
disagree a i j =
    (eqb (policy_role a i) (policy_role a j) && eqb (policy_permission a i) (policy_permission a j))
    && (not (eqb (policy_weight a i) (policy_weight a j)) || not (eqb (policy_type a i) (policy_type a j)))

-- kind 1 (004, rule 1): policies i < j of equal role and permission, related contexts, and different weight or type
unfoldable pub contradict : List ℕ → List ℕ → ℕ → ℕ → Bool
contradict c a i j = ltb i j && (disagree a i j && related c (policy_context a i) (policy_context a j))

-- policy i covers its role and, if its type is 1, that role's seniors (004, definition 15)
unfoldable pub covers : List ℕ → List ℕ → ℕ → ℕ → Bool
covers h a i r = eqb (policy_role a i) r || (eqb (policy_type a i) 1 && senior_to h r (policy_role a i))

-- exclusion record e is of kind 1 and has the permissions p and q, in either order
unfoldable pub excludes : List ℕ → ℕ → ℕ → ℕ → Bool
excludes x p q e =
    eqb (exclusion_kind x e) 1
    && ((eqb (exclusion_first x e) p && eqb (exclusion_second x e) q)
    || (eqb (exclusion_first x e) q && eqb (exclusion_second x e) p))

-- permissions p and q form an exclusion of kind 1
unfoldable pub excluded : List ℕ → ℕ → ℕ → Bool
excluded x p q = any_below (record_count exclusions x) (excludes x p q)

-- some of R roles is covered by both policies
unfoldable pub cover_both : ℕ → List ℕ → List ℕ → ℕ → ℕ → Bool
cover_both R h a i j = any_below R (λ r. covers h a i r && covers h a j r)

-- kind 2: policies i < j whose permissions form an exclusion of kind 1, and some role is covered by both
unfoldable pub overlap : ℕ → List ℕ → List ℕ → List ℕ → ℕ → ℕ → Bool
overlap R h x a i j = ltb i j && (excluded x (policy_permission a i) (policy_permission a j) && cover_both R h a i j)

-- exclusion record e is of kind 0, and both its roles are among these
unfoldable pub both_among : (ℕ → Bool) → List ℕ → ℕ → Bool
both_among roles x e =
    eqb (exclusion_kind x e) 0 && (roles (exclusion_first x e) && roles (exclusion_second x e))

-- kind 3, by a reading of which roles a user has: user u, exclusion record e of kind 0, where u has both its roles
unfoldable pub holds_both : (List ℕ → ℕ → ℕ → Bool) → List ℕ → ℕ → ℕ → Bool
holds_both has b u e = both_among (has b u) (table_of b exclusions) e

-- the records (kind, first, second) of the pairs below n and m of which p holds, by first, then second
unfoldable pub pairs_below : ℕ → ℕ → ℕ → (ℕ → ℕ → Bool) → List ℕ
pairs_below kind n m p = join_below n (λ i. join_below m (λ j. cond (p i j) (kind ∷ i ∷ j ∷ []) []))

-- the conflict list of a base, by such a reading
unfoldable pub conflicts_by : (List ℕ → ℕ → ℕ → Bool) → List ℕ → List ℕ
conflicts_by has b =
    pairs_below 1 (record_count policies (table_of b policies)) (record_count policies (table_of b policies))
    (contradict (table_of b contexts) (table_of b policies))
    ++ (pairs_below 2 (record_count policies (table_of b policies)) (record_count policies (table_of b policies))
    (overlap (role_count b) (table_of b hierarchy) (table_of b exclusions) (table_of b policies))
    ++ pairs_below 3 (record_count users (table_of b users)) (record_count exclusions (table_of b exclusions))
    (holds_both has b))

-- the conflict list: by request Eight a user has the roles in which request Two lets the user act
unfoldable pub conflicts : List ℕ → List ℕ
conflicts b = conflicts_by may_act b

-- the number of its records
unfoldable pub conflict_count : List ℕ → ℕ
conflict_count b = length (conflicts b) / 3

-- refusal 18: a buffer of n bytes is shorter than 3 times the number of conflicts
unfoldable pub too_short : List ℕ → ℕ → Bool
too_short b n = ltb n (3 * conflict_count b)

-- the answer for a buffer of n bytes: refusals 1 to 9 carry 0, 18 the number that would be written
unfoldable pub conflict_answer : List ℕ → ℕ → Answer
conflict_answer b n =
    cond (not (eqb (refusal_of b) 0)) (record { refusal = refusal_of b; count = 0 })
    (cond (too_short b n)
    (record { refusal = 18; count = conflict_count b })
    (record { refusal = 0; count = conflict_count b }))

-- the buffer afterwards: the list, and the bytes behind it as they were; no refusal writes
unfoldable pub conflict_bytes : List ℕ → List ℕ → List ℕ
conflict_bytes b out =
    cond (not (eqb (refusal_of b) 0) || too_short b (length out)) out (conflicts b ++ drop (3 * conflict_count b) out)
