-- The laws of the batch, for every base, context and buffer and every list of bytes as queries.
use Prim.Native.Nat.{ℕ, ◌+◌, ◌-◌, ◌*◌, ◌/◌, ◌<◌, ◌≤◌}
use mathlib.Core.Bool.{Bool, true, false, not, cond}
use mathlib.Core.List.{List, [], ◌∷◌, ◌++◌}
use mathlib.Core.Logic.{◌⊎◌, ◌↔◌, ⊎_elim}
use mathlib.Core.Path.{◌≡◌, refl, sym, ap, ◌∙◌}
use native.Mathlib.Nat.{suc-ne-zero, pos_of_ne-zero}
use native.Mathlib.Omega.{arith}
use borrow.Author.Tests.{eqb-true, eqb-false, eq-eqb, ne_eqb, lt-ltb, le-ltb, ltb-false}
use lib.Dec.{ltb, eqb}
use lib.ListN.{length, get_or, drop, length-append}
use Rattle.std.proofs.lemmas.List.{ext_get_or, get_or-take, get_or-drop, length-take-le, length-drop}
use Rattle.std.proofs.lemmas.List.{get_or_append_left, get_or-append_right}
use Rattle.folds.proofs.Bools.{met_or_not, met, passed, or_left, or_right, or_first, or_second, or_neither}
use Rattle.folds.proofs.Bools.{unrefused, none_refused}
use Rattle.folds.proofs.Lists.{join_same}
use Rattle.reader.specs.Tables.{permission_count}
use Rattle.reader.specs.Rules.{refusal_of}
use Rattle.weights.specs.declared.Context.{Context}
use Rattle.weights.specs.Contexts.{out_of_range}
use Rattle.decision.specs.Groups.{length_refused, members_refusal, group_refusal}
use Rattle.decision.specs.Decision.{group_decision, decision_of, decision_by}
use Rattle.decision.specs.Granting.{GrantedBy}
use Rattle.decision.proofs.Granting.{granted_by}
use Rattle.batch.specs.Queries.{query_count, query, query_permission, entry_count_of, query_group, count_refused}
use Rattle.batch.specs.Queries.{answer_to}
use Rattle.batch.specs.Batch.{queries_refused, fitting, batch_refusal, answers_below, answered_all, batch_bytes}
use Rattle.batch.proofs.Asking.{byte_at, permission_at}
use Rattle.batch.proofs.Answering.{numbers_length, numbers_at, answered_one, fits, base_accepted}

-- two lists of queries of one length agree in what is read: of each query the permission and the entry count n and,
-- where n isn't above 6, the bytes of the first n entries
pub record ReadAlike (queries others : List ℕ) : Type 0 where
  pub long : length queries ≡ length others
  pub permission : (i : ℕ) → i < query_count queries → get_or queries (14 * i) 0 ≡ get_or others (14 * i) 0
  pub count : (i : ℕ) → i < query_count queries → get_or queries (14 * i + 1) 0 ≡ get_or others (14 * i + 1) 0
  pub entries : (i n x : ℕ) → i < query_count queries → n ≡ get_or queries (14 * i + 1) 0 → n ≤ 6 →
      2 ≤ x → x < 2 + 2 * n → get_or queries (14 * i + x) 0 ≡ get_or others (14 * i + x) 0

-- by the permission, the entry count and, where that isn't refused, the group, a query's answer is known
module _ (b : List ℕ) (at : Context) where
  by_parts : (p : ℕ) (g h : List ℕ) (t : Bool) → (t ≡ false → g ≡ h) →
      cond t (cond (not (ltb p (permission_count b))) 10 12) (decision_of b at p g)
      ≡ cond t (cond (not (ltb p (permission_count b))) 10 12) (decision_of b at p h)
  by_parts p g h true same = refl
  by_parts p g h false same = ap (decision_of b at p) (same refl)

  answer_alike : (q o : List ℕ) → query_permission q ≡ query_permission o → entry_count_of q ≡ entry_count_of o →
      (count_refused (entry_count_of q) ≡ false → query_group q ≡ query_group o) → answer_to b at q ≡ answer_to b at o
  unfolding answer_to
  answer_alike q o permission count group =
      ap
      (λ p.
      cond (count_refused (entry_count_of q)) (cond (not (ltb p (permission_count b))) 10 12)
      (decision_of b at p (query_group q)))
      permission
      ∙ by_parts (query_permission o) (query_group q) (query_group o)
      (count_refused (entry_count_of q)) group
      ∙ ap
      (λ n.
      cond (count_refused n) (cond (not (ltb (query_permission o) (permission_count b))) 10 12)
      (decision_of b at (query_permission o) (query_group o)))
      count

-- a query has 14 bytes
query_length : (queries : List ℕ) (i : ℕ) → i < query_count queries → length (query queries i) ≡ 14
query_length queries i l =
    let rest = length-drop (14 * i) queries in
    length-take-le 14 (drop (14 * i) queries) (omega arith)

-- a group of at most 6 entries: how many bytes, and byte k of the query's
group_length : (q : List ℕ) → length q ≡ 14 → entry_count_of q ≤ 6 → length (query_group q) ≡ 2 * entry_count_of q
group_length q long few =
    let rest = length-drop 2 q in
    length-take-le (2 * entry_count_of q) (drop 2 q) (omega arith)

group_byte : (q : List ℕ) (k : ℕ) → k < 2 * entry_count_of q → get_or (query_group q) k 0 ≡ get_or q (2 + k) 0
group_byte q k l = get_or-take (2 * entry_count_of q) (drop 2 q) k 0 l ∙ get_or-drop 2 q k 0

module _ {queries others : List ℕ} (alike : ReadAlike queries others) where
  same_count : query_count queries ≡ query_count others
  same_count = ap (λ n. n / 14) alike.long

  module _ (i : ℕ) (l : i < query_count queries) where
    same_permission : query_permission (query queries i) ≡ query_permission (query others i)
    same_permission = permission_at queries i ∙ alike.permission i l ∙ sym (permission_at others i)

    same_entries : entry_count_of (query queries i) ≡ entry_count_of (query others i)
    same_entries = byte_at queries i 1 (omega arith) ∙ alike.count i l ∙ sym (byte_at others i 1 (omega arith))

    same_group : count_refused (entry_count_of (query queries i)) ≡ false →
        query_group (query queries i) ≡ query_group (query others i)
    same_group fine =
        let q = query queries i in
        let o = query others i in
        let n = entry_count_of q in
        let few : n ≤ 6 = ltb-false 6 n (or_right (eqb n 0) (ltb 6 n) fine) in
        let few_others : entry_count_of o ≤ 6 = rw (← same_entries) few in
        let l_others : i < query_count others = rw (← same_count) l in
        let long = group_length q (query_length queries i l) few in
        let long_others = group_length o (query_length others i l_others) few_others in
        let same = same_entries in
        ext_get_or 0 (query_group q) (query_group o) (omega (arith, long, long_others, same))
        (λ k m.
        let within : k < 2 * n = omega (arith, long, m) in
        let within_others : k < 2 * entry_count_of o = omega (arith, within, same) in
        group_byte q k within ∙ byte_at queries i (2 + k) (omega (arith, within, few))
        ∙ alike.entries i n (2 + k) l (byte_at queries i 1 (omega arith)) few (omega arith) (omega (arith, within))
        ∙ sym (byte_at others i (2 + k) (omega (arith, within, few))) ∙ sym (group_byte o k within_others))

  -- bytes that aren't read change nothing: queries that agree in what is read get the same refusal and the same bytes
  pub unused_alike : (b : List ℕ) (at : Context) (out : List ℕ) →
      (batch_refusal b at (length queries) (length out) ≡ batch_refusal b at (length others) (length out))
      × (batch_bytes b at queries out ≡ batch_bytes b at others out)
  unfolding batch_bytes
  unused_alike b at out =
      let n = query_count queries in
      let f : ℕ → List ℕ = λ i. answer_to b at (query queries i) ∷ [] in
      let g : ℕ → List ℕ = λ i. answer_to b at (query others i) ∷ [] in
      let refusal = ap (λ m. batch_refusal b at m (length out)) alike.long in
      let answers : answers_below n b at queries ≡ answers_below n b at others =
      join_same f g n
      (λ i l.
      let same = answer_alike b at (query queries i) (query others i) (same_permission i l) (same_entries i l)
      (same_group i l) in
      ap (λ x. x ∷ []) same) in
      let all : answered_all b at queries out ≡ answered_all b at others out =
      ap (λ xs. xs ++ drop n out) answers ∙ ap (λ m. answers_below m b at others ++ drop m out) same_count in (
        refusal,
        ap (λ r. cond (eqb r 0) (answered_all b at queries out) out) refusal
            ∙ ap (λ xs. cond (eqb (batch_refusal b at (length others) (length out)) 0) xs out) all,
      )

module _ (b : List ℕ) (at : Context) (queries out : List ℕ) where
  abbrev refusal : ℕ
  refusal = batch_refusal b at (length queries) (length out)

  -- the call isn't refused
  abbrev pub Done : Type 0
  Done = refusal ≡ 0

  accepted : Done → (refusal_of b ≡ 0) × (fitting at (length queries) (length out) ≡ 0)
  unfolding batch_refusal
  accepted done = none_refused (refusal_of b) _ done

  bytes_are : Done → batch_bytes b at queries out ≡ answered_all b at queries out
  unfolding batch_bytes
  bytes_are done = rw done

  abbrev answer : ℕ → ℕ
  answer i = answer_to b at (query queries i)

  -- byte i of the buffer is afterwards the answer to query i
  pub each_answer : Done → (i : ℕ) → i < query_count queries →
      get_or (batch_bytes b at queries out) i 0 ≡ answer_to b at (query queries i)
  each_answer done i l =
      let n = query_count queries in
      let long = numbers_length answer n in
      ap (λ (xs : List ℕ). get_or xs i 0) (bytes_are done)
      ∙ get_or_append_left (answers_below n b at queries) (drop n out) 0 i (omega (arith, long, l))
      ∙ numbers_at answer n i l

  -- each byte behind the answers is as it was
  pub later_bytes : Done → (i : ℕ) → query_count queries ≤ i →
      get_or (batch_bytes b at queries out) i 0 ≡ get_or out i 0
  later_bytes done i l =
      let n = query_count queries in
      let back : n + (i - n) ≡ i = omega (arith, l) in
      ap (λ (xs : List ℕ). get_or xs i 0) (bytes_are done)
      ∙ get_or-append_right (answers_below n b at queries) (drop n out) n i 0 (numbers_length answer n) l
      ∙ get_or-drop n out (i - n) 0 ∙ ap (λ k. get_or out k 0) back

  -- a refused call leaves all bytes as they were
  pub refused_untouched : (Done → ⊥) → batch_bytes b at queries out ≡ out
  unfolding batch_bytes
  refused_untouched some = rw (ne_eqb refusal 0 some)

  -- the buffer is as long as it was
  pub same_length : length (batch_bytes b at queries out) ≡ length out
  same_length = ⊎_elim (λ e. answered (eqb-true _ _ e)) (λ e. kept (eqb-false _ _ e)) (met_or_not (eqb refusal 0))
    where
      answered : Done → length (batch_bytes b at queries out) ≡ length out
      answered done =
          let n = query_count queries in
          let (_, room) = fits at (length queries) (length out) (accepted done).1 in
          let both = length-append (answers_below n b at queries) (drop n out) in
          let first = numbers_length answer n in
          let rest = length-drop n out in
          ap (λ (xs : List ℕ). length xs) (bytes_are done) ∙ omega (arith, both, first, rest, room)

      kept : (Done → ⊥) → length (batch_bytes b at queries out) ≡ length out
      kept some = ap (λ (xs : List ℕ). length xs) (refused_untouched some)

module _ (b : List ℕ) (at : Context) (queries out : List ℕ) (done : Done b at queries out) (i : ℕ)
    (l : i < query_count queries) (x : ℕ) where
  taken : Done b at (query queries i) (x ∷ [])
  unfolding queries_refused
  taken =
      let (ok, fit) = accepted b at queries out done in
      let (in_range, _) = fits at (length queries) (length out) fit in
      sym (base_accepted b at (query queries i) (x ∷ []) (sym ok) (rw (query_length queries i l, in_range)))

  -- a query is answered alone as it is among many: a call with it alone isn't refused where that with all isn't, and
  -- its one byte is the same
  pub alone : Done b at (query queries i) (x ∷ [])
      × (batch_bytes b at (query queries i) (x ∷ []) ≡ get_or (batch_bytes b at queries out) i 0 ∷ [])
  alone =
      let q = query queries i in
      let one = answered_one b at q (x ∷ []) {x = answer_to b at q} (query_length queries i l) (omega arith) refl in (
        taken,
        bytes_are b at q (x ∷ []) taken ∙ sym one
            ∙ ap (λ y. y ∷ []) (sym (each_answer b at queries out done i l)),
      )

module _ (b : List ℕ) (at : Context) (q : List ℕ) where
  -- with 1 to 6 entries a query is answered as the decision answers its permission and its entries' bytes
  pub as_decided : 1 ≤ entry_count_of q → entry_count_of q ≤ 6 →
      answer_to b at q ≡ decision_of b at (query_permission q) (query_group q)
  unfolding answer_to
  as_decided some few =
      passed _ (or_neither (ne_eqb (entry_count_of q) 0 (λ e. omega arith)) (le-ltb 6 (entry_count_of q) few))

  -- of no entry the decision says 12 before all else
  no_entry : group_decision [] b at (query_permission q) [] ≡ 12
  unfolding group_decision group_refusal members_refusal length_refused
  no_entry = refl

  says : refusal_of b ≡ 0 → out_of_range at ≡ false →
      decision_of b at (query_permission q) [] ≡ cond (not (ltb (query_permission q) (permission_count b))) 10 12
  unfolding decision_by
  says ok in_range = unrefused ok ∙ rw (in_range, no_entry)

  -- with none or more than 6, where the base is accepted and the context in range, it is answered as the decision
  -- answers its permission and no entry
  pub no_group : refusal_of b ≡ 0 → out_of_range at ≡ false → (entry_count_of q ≡ 0) ⊎ (6 < entry_count_of q) →
      answer_to b at q ≡ decision_of b at (query_permission q) []
  unfolding answer_to
  no_group ok in_range none =
      sym (met _ (⊎_elim (λ e. or_first _ (eq-eqb _ _ e)) above none)) ∙ sym (says ok in_range)
    where
      above : 6 < entry_count_of q → count_refused (entry_count_of q) ≡ true
      above l = or_second (ne_eqb (entry_count_of q) 0 (λ e. omega arith)) (lt-ltb 6 (entry_count_of q) l)

  some_refusal : (t : Bool) → cond {A = ℕ} t 10 12 ≡ 0 → ⊥
  some_refusal true e = suc-ne-zero 9 e
  some_refusal false e = suc-ne-zero 11 e

  -- a refused count isn't granted
  not_granted : count_refused (entry_count_of q) ≡ true → answer_to b at q ≡ 0 → ⊥
  unfolding answer_to
  not_granted t h = some_refusal (not (ltb (query_permission q) (permission_count b))) (met _ t ∙ h)

  -- an answer is 0 exactly where the query has 1 to 6 entries and these are granted its permission
  pub granted_query : refusal_of b ≡ 0 → out_of_range at ≡ false →
      (answer_to b at q ≡ 0)
      ↔ ((1 ≤ entry_count_of q) × (entry_count_of q ≤ 6) × (query_permission q < permission_count b)
      × GrantedBy [] b at (query_permission q) (query_group q))
  granted_query ok in_range = (
    λ h. ⊎_elim (λ t. absurd (not_granted t h)) (λ t. granted t h) (met_or_not (count_refused (entry_count_of q))),
    λ (some, few, there, granted).
        as_decided some few
        ∙ (granted_by [] b at (query_permission q) (query_group q)).1 (ok, there, in_range, granted),
  )
    where
      granted : count_refused (entry_count_of q) ≡ false → answer_to b at q ≡ 0 →
          (1 ≤ entry_count_of q) × (entry_count_of q ≤ 6) × (query_permission q < permission_count b)
          × GrantedBy [] b at (query_permission q) (query_group q)
      granted t h =
          let n = entry_count_of q in
          let some = pos_of_ne-zero (eqb-false n 0 (or_left (eqb n 0) (ltb 6 n) t)) in
          let few = ltb-false 6 n (or_right (eqb n 0) (ltb 6 n) t) in
          let by_decision = sym (as_decided some few) ∙ h in
          let (_, there, _, is) = (granted_by [] b at (query_permission q) (query_group q)).0 by_decision in
          (some, few, there, is)

module _ (b : List ℕ) (at : Context) (queries out : List ℕ) (done : Done b at queries out) (i : ℕ)
    (l : i < query_count queries) where
  -- so a byte of the answers is 0 exactly where the query is granted
  pub granted_answer :
      (get_or (batch_bytes b at queries out) i 0 ≡ 0)
      ↔ ((1 ≤ entry_count_of (query queries i)) × (entry_count_of (query queries i) ≤ 6)
      × (query_permission (query queries i) < permission_count b)
      × GrantedBy [] b at (query_permission (query queries i)) (query_group (query queries i)))
  granted_answer =
      let (ok, fit) = accepted b at queries out done in
      let (in_range, _) = fits at (length queries) (length out) fit in
      let is = each_answer b at queries out done i l in
      let law = granted_query b at (query queries i) ok in_range in
      (λ h. law.0 (sym is ∙ h), λ w. is ∙ law.1 w)
