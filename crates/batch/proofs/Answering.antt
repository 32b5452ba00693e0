-- The answer to a query by the first refusal that applies: 10 and 12 of the query, then what its group gets; and the
-- answers' bytes, written one behind the other.
use Prim.Native.Nat.{ℕ, zero, suc, ◌+◌, ◌-◌, ◌*◌, ◌/◌, ◌%◌, ◌<◌, ◌≤◌}
use mathlib.Core.Bool.{Bool, true, false, not, cond}
use mathlib.Core.List.{List, [], ◌∷◌, ◌++◌, append_assoc}
use mathlib.Core.Path.{◌≡◌, refl, sym, ap, ◌∙◌}
use native.Mathlib.Nat.{not-suc-le-zero}
use native.Mathlib.Omega.{arith}
use borrow.Author.Tests.{ltb-false, ne_eqb}
use lib.Dec.{ltb, eqb}
use lib.ListN.{length, get_or, set, take, drop, length-append}
use Rattle.std.proofs.lemmas.List.{drop_more, set-append_right, take_all}
use Rattle.std.proofs.lemmas.List.{get_or_append_left, get_or-append_right}
use Rattle.folds.specs.Below.{join_below}
use Rattle.folds.proofs.Bools.{met, passed, or_right, refused, unrefused, none_met}
use Rattle.folds.proofs.Lists.{join_none, join_more}
use Rattle.folds.proofs.Tests.{split}
use Rattle.reader.specs.Tables.{permission_count}
use Rattle.reader.specs.Rules.{refusal_of}
use Rattle.weights.specs.declared.Context.{Context}
use Rattle.weights.specs.Contexts.{out_of_range}
use Rattle.decision.specs.Groups.{group_refusal}
use Rattle.decision.specs.Decision.{present_of, weighed_of, group_decision, decision_of, decision_by}
use Rattle.decision.proofs.Heads.{present_first, present_left, group_decided}
use Rattle.batch.specs.Queries.{query_count, query, query_permission, entry_count_of, query_group, count_refused}
use Rattle.batch.specs.Queries.{answer_to}
use Rattle.batch.specs.Batch.{queries_refused, fitting, batch_refusal, answered_all, batch_bytes}

-- 10 and 12 of a query where there are P permissions
abbrev pub query_refusal : List ℕ → ℕ → ℕ
query_refusal q P = cond (not (ltb (query_permission q) P)) 10 (cond (count_refused (entry_count_of q)) 12 0)

module _ (b : List ℕ) (at : Context) (q : List ℕ) where
  abbrev absent : Bool
  absent = not (ltb (query_permission q) (permission_count b))

  module _ (ok : refusal_of b ≡ 0) where
    -- where the permission isn't there, the decision says so
    by_10 : absent ≡ true → decision_of b at (query_permission q) (query_group q) ≡ 10
    unfolding decision_by
    by_10 e = unrefused ok ∙ sym (met _ e)

    pub query_refused : {r P : ℕ} → P ≡ permission_count b → r ≡ query_refusal q P → (r ≡ 0 → ⊥) → r ≡ answer_to b at q
    unfolding answer_to
    query_refused {r} same is some =
        let here : r ≡ query_refusal q (permission_count b) = is ∙ ap (query_refusal q) same in
        here ∙ by absent (count_refused (entry_count_of q)) by_10 (λ e. some (here ∙ e))
      where
        by : (t u : Bool) {x : ℕ} → (t ≡ true → x ≡ 10) → (cond {A = ℕ} t 10 (cond u 12 0) ≡ 0 → ⊥) →
            cond {A = ℕ} t 10 (cond u 12 0) ≡ cond u (cond t 10 12) x
        by true true ten some = refl
        by true false ten some = sym (ten refl)
        by false true ten some = refl
        by false false ten some = absurd (some refl)

    -- what the group gets is the answer where neither applies
    module _ (in_range : out_of_range at ≡ false) {r P : ℕ} (same : P ≡ permission_count b)
        (none : 0 ≡ query_refusal q P) where
      pub query_decided : r ≡ group_decision [] b at (query_permission q) (query_group q) → r ≡ answer_to b at q
      unfolding answer_to
      query_decided is =
          let (there, counted) = none_met absent 9 (sym (none ∙ ap (query_refusal q) same)) in
          let (fine, _) = none_met (count_refused (entry_count_of q)) 11 counted in
          group_decided b at (query_permission q) [] (query_group q) ok (rw (there, in_range)) refl refl is
          ∙ sym (passed _ fine)

      -- 13 to 15 and 24
      pub query_absent : r ≡ present_of b at (query_group q) 0 → (r ≡ 0 → ⊥) → r ≡ answer_to b at q
      unfolding group_decision group_refusal
      query_absent is some = query_decided (is ∙ present_first _ _ _ _ (query_group q) (λ h. some (is ∙ h)) _)

      -- 16 and 17
      pub query_weighed : 0 ≡ present_of b at (query_group q) 0 →
          r ≡ weighed_of [] b at (query_permission q) (query_group q) → r ≡ answer_to b at q
      unfolding group_decision group_refusal
      query_weighed there is = query_decided (is ∙ sym (present_left _ _ _ _ (query_group q) (sym there) _))

-- the bytes lent are the query
pub lent : (queries : List ℕ) (i : ℕ) → take (14 * i + 14 - 14 * i) (drop (14 * i) queries) ≡ query queries i
lent queries i =
    let whole : 14 * i + 14 - 14 * i ≡ 14 = omega arith in
    ap (λ n. take n (drop (14 * i) queries)) whole

-- numbers one behind the other
module _ (f : ℕ → ℕ) where
  abbrev pub numbers : ℕ → List ℕ
  numbers n = join_below n (λ i. f i ∷ [])

  pub numbers_length : (n : ℕ) → length (numbers n) ≡ n
  unfolding join_below
  numbers_length zero = refl
  numbers_length (suc n) =
      let long = length-append (numbers n) (f n ∷ []) in
      let before = numbers_length n in
      omega (arith, long, before)

  pub numbers_at : (n i : ℕ) → i < n → get_or (numbers n) i 0 ≡ f i
  unfolding join_below
  numbers_at zero i l = absurd (not-suc-le-zero l)
  numbers_at (suc n) i l =
      split l
      (λ e. rw e (get_or-append_right (numbers n) (f n ∷ []) n n 0 (numbers_length n) (omega arith) ∙ first n))
      (λ m.
      let long = numbers_length n in
      get_or_append_left (numbers n) (f n ∷ []) 0 i (omega (arith, long, m)) ∙ numbers_at n i m)
    where
      first : (n : ℕ) → get_or (f n ∷ []) (n - n) 0 ≡ f n
      first n = let none : n - n ≡ 0 = omega arith in rw none

  -- before the first of them a list is as it was
  pub written_none : (out : List ℕ) → out ≡ numbers 0 ++ drop 0 out
  written_none out = rw join_none

  -- the next is stored behind them
  pub written_more : (i : ℕ) {x : ℕ} (out : List ℕ) → i < length out → x ≡ f i →
      set (numbers i ++ drop i out) i x ≡ numbers (i + 1) ++ drop (i + 1) out
  written_more i {x} out l is =
      set-append_right (numbers i) (drop i out) i i x (numbers_length i) (omega arith)
      ∙ ap (λ (ys : List ℕ). numbers i ++ ys) stored
      ∙ sym (append_assoc (numbers i) (f i ∷ []) (drop (i + 1) out))
      ∙ ap (λ (xs : List ℕ). xs ++ drop (i + 1) out) (sym (join_more (λ i. f i ∷ []) i))
    where
      stored : set (drop i out) (i - i) x ≡ f i ∷ drop (i + 1) out
      stored =
          let first : i - i ≡ 0 = omega arith in
          rw (first, drop_more out i 0 l, is)

-- one query alone is answered into the first byte
pub answered_one : (b : List ℕ) (at : Context) (queries out : List ℕ) {x : ℕ} → length queries ≡ 14 → 0 < length out →
    x ≡ answer_to b at queries → set out 0 x ≡ answered_all b at queries out
answered_one b at queries out {x} long l is =
    let one : query_count queries ≡ 1 = rw long in
    let whole : query queries 0 ≡ queries = take_all 14 queries (omega arith) in
    let f : ℕ → ℕ = λ i. answer_to b at (query queries i) in
    rw one
    (ap (λ (xs : List ℕ). set xs 0 x) (written_none f out)
    ∙ written_more f 0 out l (is ∙ ap (answer_to b at) (sym whole)))

-- where neither 11 nor 28 applies, the context is in range and the answers have room
pub fits : (at : Context) (m n : ℕ) → fitting at m n ≡ 0 → (out_of_range at ≡ false) × (m / 14 ≤ n)
unfolding queries_refused
fits at m n h =
    let (in_range, past11) = none_met (out_of_range at) 10 h in
    let (fine, _) = none_met (queries_refused m n) 27 past11 in
    let room = or_right (ltb 1024 (m / 14)) (ltb n (m / 14)) (or_right (not (eqb (m % 14) 0)) _ fine) in
    (in_range, ltb-false n (m / 14) room)

-- the call's refusal and its bytes
module _ (b : List ℕ) (at : Context) (queries out : List ℕ) where
  abbrev refusal : ℕ
  refusal = batch_refusal b at (length queries) (length out)

  pub base_refused : {r : ℕ} → r ≡ refusal_of b → (r ≡ 0 → ⊥) → r ≡ refusal
  unfolding batch_refusal
  base_refused is some = is ∙ refused _ (λ e. some (is ∙ e))

  pub base_accepted : {r : ℕ} → 0 ≡ refusal_of b → r ≡ fitting at (length queries) (length out) → r ≡ refusal
  unfolding batch_refusal
  base_accepted ok is = is ∙ sym (unrefused (sym ok))

  pub bytes_kept : {r : ℕ} → r ≡ refusal → (r ≡ 0 → ⊥) → out ≡ batch_bytes b at queries out
  unfolding batch_bytes
  bytes_kept is some = rw (ne_eqb refusal 0 (λ e. some (is ∙ e)))

  pub bytes_answered : {now : List ℕ} → 0 ≡ refusal → now ≡ answered_all b at queries out →
      now ≡ batch_bytes b at queries out
  unfolding batch_bytes
  bytes_answered none is = rw (← none) is
