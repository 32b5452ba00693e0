-- A base with one policy's weight replaced: every other field stays, and with a weight of 1 to 5 it is accepted.
use Prim.Native.Nat.{ℕ, ◌+◌, ◌*◌, ◌<◌}
use mathlib.Core.Bool.{false}
use mathlib.Core.List.{List}
use mathlib.Core.Logic.{⊎_elim}
use mathlib.Core.Path.{◌≡◌, sym, ◌∙◌}
use native.Mathlib.Omega.{arith}
use borrow.Author.Tests.{eqb-true, eqb-false, le-ltb}
use lib.Dec.{lit<, eqb}
use lib.ListN.{get_or, set, length-set}
use lib.Seq.{get_or-set_same, get_or-set_other}
use Rattle.folds.proofs.Bools.{or_neither, met_or_not}
use Rattle.folds.proofs.Tests.{any_same}
use Rattle.reader.specs.Bytes.{word16}
use Rattle.reader.specs.Tables.{policies, width, role_count, table_of, table_size, record_count, policy_count}
use Rattle.reader.specs.Tables.{frame_refusal}
use Rattle.reader.specs.Fields.{weight_place, policy_weight}
use Rattle.reader.specs.Rules.{outside, policy_bad, policies_bad, records_refusal, refusal_of}
use Rattle.reader.proofs.Frame.{table_length}
use Rattle.reader.proofs.Accepted.{accepted, accepted_frame, refused_records, record_within, policy_fine}
use Rattle.reader.proofs.Replaced.{same_roles, same_frame, others_stay, table_replaced}
use Rattle.weights.proofs.Agree.{SameChoice}
use Rattle.shift.specs.Shift.{weight_in, with_weight}

-- the table A with w as the weight of policy i
abbrev pub replaced_in : List ℕ → ℕ → ℕ → List ℕ
replaced_in a i w = set a (weight_place i) w

module _ (a : List ℕ) (i w : ℕ) where
  stays : (n : ℕ) → (n ≡ weight_place i → ⊥) → get_or a n 0 ≡ get_or (replaced_in a i w) n 0
  stays n other = sym (get_or-set_other a (weight_place i) n w 0 other)

  stays_word : (n : ℕ) → (n ≡ weight_place i → ⊥) → (n + 1 ≡ weight_place i → ⊥) →
      word16 a n ≡ word16 (replaced_in a i w) n
  unfolding word16
  stays_word n low high = rw (stays n low, stays (n + 1) high)

  -- no policy's role, permission, type, context, rank or issue day moves
  pub same_choice : SameChoice a (replaced_in a i w)
  same_choice = record {
    count = rw length-set;
    role = λ k l. stays (width policies * k) (λ q. omega arith);
    permission = λ k l. stays (width policies * k + 1) (λ q. omega arith);
    type = λ k l. stays (width policies * k + 3) (λ q. omega arith);
    context = λ k l. stays (width policies * k + 4) (λ q. omega arith);
    rank = λ k l. stays (width policies * k + 5) (λ q. omega arith);
    day = λ k l. stays_word (width policies * k + 6) (λ q. omega arith) (λ q. omega arith);
  }

  -- nor another one's weight
  pub other_weight : (k : ℕ) → (k ≡ i → ⊥) → policy_weight (replaced_in a i w) k ≡ policy_weight a k
  other_weight k other = get_or-set_other a (weight_place i) (weight_place k) w 0 (λ q. other (omega arith))

  -- policy i has the weight w
  pub its_weight : i < record_count policies a → policy_weight (replaced_in a i w) i ≡ w
  its_weight there =
      let within = record_within policies a i there in
      get_or-set_same a (weight_place i) w 0 (omega arith)

  -- with weights of 1 to 5 before and after, its rules are kept or broken as they were
  same_rules : i < record_count policies a → outside 1 5 (policy_weight a i) ≡ false → outside 1 5 w ≡ false →
      (R P : ℕ) → policies_bad R P (replaced_in a i w) ≡ policies_bad R P a
  unfolding policies_bad policy_bad
  same_rules there was fits R P =
      rw (← same_choice.count)
      (any_same (policy_bad R P (replaced_in a i w)) (policy_bad R P a) (record_count policies a)
      (λ k l. rw (
        ← same_choice.role k l,
        ← same_choice.permission k l,
        range k,
        ← same_choice.type k l,
        ← same_choice.context k l,
      )))
    where
      range : (k : ℕ) → outside 1 5 (policy_weight (replaced_in a i w) k) ≡ outside 1 5 (policy_weight a k)
      range k =
          ⊎_elim
          (λ e. rw (eqb-true k i e, its_weight there, was) fits)
          (λ e. rw (other_weight k (eqb-false k i e)))
          (met_or_not (eqb k i))

module _ (b : List ℕ) (ok : refusal_of b ≡ 0) (i : ℕ) (there : i < policy_count b) (w : ℕ) where
  frame : frame_refusal b ≡ 0
  frame = accepted_frame b ok

  within : weight_place i < table_size b policies
  within =
      let e = table_length b frame policies (lit< tt) in
      let l = record_within policies (table_of b policies) i there in
      omega arith

  -- R stays
  pub roles_stay : role_count (with_weight b i w) ≡ role_count b
  roles_stay = same_roles b frame policies (weight_place i) w (lit< tt) within

  -- the other tables stay
  pub table_stays : (t : ℕ) → t < 7 → (t ≡ policies → ⊥) → table_of (with_weight b i w) t ≡ table_of b t
  table_stays t low other = others_stay b frame policies (weight_place i) w (lit< tt) within t low other

  -- in A the one weight is replaced
  pub policies_replaced : table_of (with_weight b i w) policies ≡ replaced_in (table_of b policies) i w
  policies_replaced = table_replaced b frame policies (weight_place i) w (lit< tt) within

  -- the new weight is w
  pub new_weight : weight_in (with_weight b i w) i ≡ w
  new_weight = rw policies_replaced (its_weight (table_of b policies) i w there)

  -- with a weight of 1 to 5 the base is accepted
  pub still_accepted : outside 1 5 w ≡ false → refusal_of (with_weight b i w) ≡ 0
  unfolding records_refusal
  still_accepted fits =
      refused_records _ (same_frame b frame policies (weight_place i) w (lit< tt) within)
      ∙ rw (
        roles_stay,
        table_stays 0 (lit< tt) (λ q. omega arith),
        table_stays 1 (lit< tt) (λ q. omega arith),
        table_stays 2 (lit< tt) (λ q. omega arith),
        table_stays 3 (lit< tt) (λ q. omega arith),
        table_stays 4 (lit< tt) (λ q. omega arith),
        table_stays 6 (lit< tt) (λ q. omega arith),
        policies_replaced,
        same_rules (table_of b 5) i w there was fits,
      )
      (sym (refused_records b frame) ∙ ok)
    where
      was : outside 1 5 (weight_in b i) ≡ false
      was =
          let fine = policy_fine _ _ (table_of b policies) i (accepted b ok).policies there in
          or_neither (le-ltb _ _ fine.weight_pos) (le-ltb _ _ fine.weight_le)
