-- The laws of acting: who may act in a role, in the paper's words, and what follows for holders, chains and a base
-- without hierarchy.
use Prim.Native.Nat.{ℕ, ◌^◌, ◌<◌, ◌≤◌}
use mathlib.Core.Bool.{Bool, true, false, ◌&&◌, ◌||◌, cond, or-true, false≢true}
use mathlib.Core.Path.{◌≡◌, refl, sym, subst, ◌∙◌}
use mathlib.Core.Logic.{◌⊎◌, inl, inr, ⊎_elim, ◌↔◌}
use mathlib.Core.List.{List}
use native.Mathlib.Nat.{lt_of_lt_of_le}
use native.Mathlib.Omega.{arith}
use borrow.Author.Tests.{ltb-true, lt-ltb, eqb-true, eq-eqb}
use lib.Dec.{ltb, eqb}
use lib.ListN.{get_or}
use Rattle.folds.specs.Below.{any_below}
use Rattle.folds.specs.Sets.{in_set, set_below}
use Rattle.folds.proofs.Bools.{and_left, and_right, and_both, or_either, never_met, same_test}
use Rattle.folds.proofs.Tests.{any_found, any_some}
use Rattle.folds.proofs.Numbers.{sum_zero}
use Rattle.folds.proofs.Sets.{in_whole, same_members}
use Rattle.reader.specs.Tables.{hierarchy, users, role_count, user_count, table_of, record_count}
use Rattle.reader.specs.Fields.{parameter}
use Rattle.reader.specs.Codes.{code_divides, held_by, holds}
use Rattle.reader.specs.Rules.{hierarchy_bad, refusal_of}
use Rattle.reader.proofs.Frame.{roles_range}
use Rattle.reader.proofs.Accepted.{accepted, accepted_frame}
use Rattle.weights.specs.Seniority.{Chain, one, more, chain_within, senior_to}
use Rattle.weights.specs.Acting.{acts_through, may_act}
use Rattle.weights.specs.Setting.{Juniors}
use Rattle.weights.proofs.Chains.{senior_chain, senior_down}

-- whoever holds a role is a user of the base, and the role is there
pub held_known : (b : List ℕ) (u r : ℕ) → holds b u r ≡ true → (u < user_count b) × (r < role_count b)
unfolding held_by
held_known b u r h =
    let us = table_of b users in
    let rest = and_right (ltb u (record_count users us)) (ltb r (role_count b) && code_divides r (parameter us u)) h in
    let user = and_left (ltb u (record_count users us)) _ h in
    let role = and_left (ltb r (role_count b)) (code_divides r (parameter us u)) rest in
    (ltb-true _ _ user, ltb-true _ _ role)

-- by the bytes of U, R and the juniors' bytes, user u holds role s, and r is s or one of its juniors
abbrev pub gives : ℕ → List ℕ → List ℕ → ℕ → ℕ → ℕ → Bool
gives R us juniors u r s = held_by R us u s && (eqb s r || in_set (get_or juniors s 0) r)

-- what acting says: user and role are there, and the user holds the role or one to which it is junior
pub record Acting (b : List ℕ) (u r : ℕ) : Type 0 where
  pub user : u < user_count b
  pub role : r < role_count b
  pub by : (holds b u r ≡ true) ⊎ ((s : ℕ) × (holds b u s ≡ true) × (senior_to (table_of b hierarchy) s r ≡ true))

pub acting_of : (b : List ℕ) (u r : ℕ) → may_act b u r ≡ true → Acting b u r
unfolding may_act
acting_of b u r h =
    let there = and_left (ltb u (user_count b) && ltb r (role_count b)) _ h in
    let held = and_right (ltb u (user_count b) && ltb r (role_count b)) _ h in
    record {
      user = ltb-true _ _ (and_left (ltb u (user_count b)) _ there);
      role = ltb-true _ _ (and_right (ltb u (user_count b)) _ there);
      by = ⊎_elim (λ e. inl e) (λ e. inr (through e)) (or_either (holds b u r) _ held);
    }
  where
    through : any_below (role_count b) (acts_through b u r) ≡ true →
        (s : ℕ) × (holds b u s ≡ true) × (senior_to (table_of b hierarchy) s r ≡ true)
    through e =
        let (s, l, m) = any_some (acts_through b u r) (role_count b) e in
        (s, and_left (holds b u s) _ m, and_right (holds b u s) _ m)

pub of_acting : (b : List ℕ) (u r : ℕ) → Acting b u r → may_act b u r ≡ true
unfolding may_act
of_acting b u r a =
    rw (lt-ltb _ _ a.user, lt-ltb _ _ a.role)
    (⊎_elim (λ e. rw e) (λ w. rw (through w.0 w.1 w.2) (or-true (holds b u r))) a.by)
  where
    through : (s : ℕ) → holds b u s ≡ true → senior_to (table_of b hierarchy) s r ≡ true →
        any_below (role_count b) (acts_through b u r) ≡ true
    through s held senior =
        any_found (acts_through b u r) (role_count b) s (held_known b u s held).1 (and_both held senior)

-- whoever may act in a role is a user of the base, and the role is there
pub acting_known : (b : List ℕ) (u r : ℕ) → may_act b u r ≡ true → (u < user_count b) × (r < role_count b)
acting_known b u r h = let a = acting_of b u r h in (a.user, a.role)

-- users that aren't there may act in no role
pub idle : (b : List ℕ) (u : ℕ) → user_count b ≤ u → set_below 8 (may_act b u) ≡ 0
unfolding set_below
idle b u past = sum_zero (λ r. cond (may_act b u r) (2 ^ r) 0) 8 (λ r l. rw (none r))
  where
    none : (r : ℕ) → may_act b u r ≡ false
    none r = never_met (may_act b u r) (λ h. omega (arith, (acting_known b u r h).0))

-- whoever holds a role may act in it
pub held_acting : (b : List ℕ) (u r : ℕ) → holds b u r ≡ true → may_act b u r ≡ true
held_acting b u r h =
    let k = held_known b u r h in
    of_acting b u r (record { user = k.0; role = k.1; by = inl h })

-- no role is senior to another by a table without records
none_senior : (h : List ℕ) → record_count hierarchy h ≡ 0 → (s j : ℕ) → senior_to h s j ≡ false
unfolding senior_to chain_within any_below
none_senior h e s j = rw e

-- in a base without hierarchy acting is holding
pub acting_flat : (b : List ℕ) → record_count hierarchy (table_of b hierarchy) ≡ 0 → (u r : ℕ) →
    may_act b u r ≡ holds b u r
acting_flat b flat u r = same_test (may_act b u r) (holds b u r) held (held_acting b u r)
  where
    held : may_act b u r ≡ true → holds b u r ≡ true
    held h = ⊎_elim
        (λ e. e)
        (λ w. absurd (false≢true (sym (none_senior _ flat w.0 r) ∙ w.2)))
        (acting_of b u r h).by

-- a chain behind a chain is a chain
chain_join : {h : List ℕ} {s m j : ℕ} → Chain h s m → Chain h m j → Chain h s j
chain_join (one l) c = more l c
chain_join (more l d) c = more l (chain_join d c)

-- an accepted base
module _ (b : List ℕ) (ok : refusal_of b ≡ 0) where
  few_roles : role_count b ≤ 8
  few_roles = (roles_range b (accepted_frame b ok)).1

  hierarchy_ok : hierarchy_bad (role_count b) (table_of b hierarchy) ≡ false
  hierarchy_ok = (accepted b ok).hierarchy

  -- whoever holds a role may act in each that is junior to it
  junior_acting : (u s r : ℕ) → holds b u s ≡ true → senior_to (table_of b hierarchy) s r ≡ true → may_act b u r ≡ true
  junior_acting u s r held senior =
      of_acting b u r (record {
        user = (held_known b u s held).0;
        role = (senior_down (role_count b) (table_of b hierarchy) few_roles hierarchy_ok s r senior).1;
        by = inr (s, held, senior);
      })

  -- the law of acting: the user holds the role, or a chain of H records leads to it from one that the user holds
  pub acting_chain : (u r : ℕ) → (may_act b u r ≡ true) ↔
      ((holds b u r ≡ true) ⊎ ((s : ℕ) × (holds b u s ≡ true) × Chain (table_of b hierarchy) s r))
  acting_chain u r = (to, from)
    where
      law : (s : ℕ) → (senior_to (table_of b hierarchy) s r ≡ true) ↔ Chain (table_of b hierarchy) s r
      law s = senior_chain (role_count b) (table_of b hierarchy) few_roles hierarchy_ok s r

      to : may_act b u r ≡ true →
          (holds b u r ≡ true) ⊎ ((s : ℕ) × (holds b u s ≡ true) × Chain (table_of b hierarchy) s r)
      to h = ⊎_elim (λ e. inl e) (λ w. inr (w.0, w.1, (law w.0).0 w.2)) (acting_of b u r h).by

      from : (holds b u r ≡ true) ⊎ ((s : ℕ) × (holds b u s ≡ true) × Chain (table_of b hierarchy) s r) →
          may_act b u r ≡ true
      from w = ⊎_elim (held_acting b u r) (λ w. junior_acting u w.0 r w.1 ((law w.0).1 w.2)) w

  -- a chain passes it on: who may act in a role may act in each role that is junior to it
  pub acting_passes : (u s r : ℕ) → may_act b u s ≡ true → Chain (table_of b hierarchy) s r → may_act b u r ≡ true
  acting_passes u s r h c =
      (acting_chain u r).1 (⊎_elim
      (λ e. inr (s, e, c))
      (λ w. inr (w.0, w.1, chain_join w.2 c))
      ((acting_chain u s).0 h))

  -- the roles held and those in their juniors' bytes are those in which the user may act
  pub acting_union : (juniors : List ℕ) → Juniors (table_of b hierarchy) juniors → (u r : ℕ) →
      any_below 8 (gives (role_count b) (table_of b users) juniors u r) ≡ may_act b u r
  acting_union juniors are u r = same_test (any_below 8 given) (may_act b u r) to from
    where
      given : ℕ → Bool
      given = gives (role_count b) (table_of b users) juniors u r

      to : any_below 8 given ≡ true → may_act b u r ≡ true
      to h =
          let (s, l, m) = any_some given 8 h in
          let held = and_left (holds b u s) _ m in
          ⊎_elim
          (λ e. subst (λ (k : ℕ). may_act b u k ≡ true) (eqb-true s r e) (held_acting b u s held))
          (λ e. junior_acting u s r held (sym (are.role s r l) ∙ e))
          (or_either (eqb s r) _ (and_right (holds b u s) _ m))

      from : may_act b u r ≡ true → any_below 8 given ≡ true
      from h = ⊎_elim
          (λ held. any_found given 8 r (low (held_known b u r held).1) (rw (held, eq-eqb r r refl)))
          (λ w.
          let l = low (held_known b u w.0 w.1).1 in
          any_found given 8 w.0 l (rw (w.1, are.role w.0 r l, w.2) (or-true (eqb w.0 r))))
          (acting_of b u r h).by
        where
          low : {s : ℕ} → s < role_count b → s < 8
          low l = lt_of_lt_of_le l few_roles

  -- nobody may act in a role past the last
  pub acting_past : (u r : ℕ) → 8 ≤ r → may_act b u r ≡ false
  acting_past u r past =
      never_met (may_act b u r) (λ h. let k = (acting_known b u r h).1 in let few = few_roles in omega arith)

  -- what is in the set of the roles in which the user may act
  pub acting_in : (u r : ℕ) → in_set (set_below 8 (may_act b u)) r ≡ may_act b u r
  acting_in u r = in_whole (may_act b u) 8 (acting_past u) r

  -- so a set that has them, and no other number, is that set
  pub acting_set : (juniors : List ℕ) → Juniors (table_of b hierarchy) juniors → (u set : ℕ) →
      ((r : ℕ) → in_set set r ≡ any_below 8 (gives (role_count b) (table_of b users) juniors u r)) →
      set ≡ set_below 8 (may_act b u)
  acting_set juniors are u set has =
      same_members set (set_below 8 (may_act b u))
      (λ r. has r ∙ acting_union juniors are u r ∙ sym (acting_in u r))
