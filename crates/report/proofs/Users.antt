-- The number of users of a group whose users all differ is the number of its entries.
use Prim.Native.Nat.{ℕ, zero, suc, ◌<◌, ◌≤◌}
use mathlib.Core.Bool.{Bool, false, ◌||◌, cond, or-false}
use mathlib.Core.Path.{◌≡◌, refl, sym, ap, ◌∙◌}
use mathlib.Core.Logic.{⊎_elim}
use mathlib.Core.List.{List}
use native.Mathlib.Omega.{arith}
use lib.Dec.{eqb}
use borrow.Author.Tests.{eqb-false, eq-eqb, ne_eqb}
use Rattle.folds.specs.Below.{any_below, count_below}
use Rattle.folds.proofs.Bools.{met_or_not}
use Rattle.folds.proofs.Tests.{any_each}
use Rattle.folds.proofs.Numbers.{sum_same, sum_zero, sum_pick}
use Rattle.weights.specs.declared.Context.{Context}
use Rattle.decision.specs.Decision.{decision_by}
use Rattle.decision.specs.Groups.{entry_count, entry_user}
use Rattle.decision.specs.Granting.{Granted}
use Rattle.decision.proofs.Granting.{granted_by}
use Rattle.report.specs.Demand.{user_num}
use Rattle.report.proofs.Least.{counts_bytes}

-- a test met by one number more holds of one more
count_added : (N : ℕ) (p q : ℕ → Bool) (v : ℕ) → v < N → p v ≡ false → ((u : ℕ) → q u ≡ (p u || eqb v u)) →
    count_below N q ≡ suc (count_below N p)
unfolding count_below
count_added N p q v l new e =
    let a = sum_pick (λ u. cond (p u) 1 0) N v l in
    let b = sum_pick (λ u. cond (q u) 1 0) N v l in
    let s = sum_same (λ u. cond (eqb u v) 0 (cond (q u) 1 0)) (λ u. cond (eqb u v) 0 (cond (p u) 1 0)) N
    (λ u _. others u) in
    rw (a, b, s, e v, new, eq-eqb v v refl) (omega arith)
  where
    others : (u : ℕ) → cond (eqb u v) 0 (cond (q u) 1 0) ≡ cond {A = ℕ} (eqb u v) 0 (cond (p u) 1 0)
    others u =
        ⊎_elim (λ t. rw t) (λ t. rw (e u, ne_eqb v u (λ z. eqb-false u v t (sym z)), or-false)) (met_or_not (eqb u v))

-- n different numbers below N are n of the numbers below N
count_values : (N : ℕ) (f : ℕ → ℕ) (n : ℕ) → ((i : ℕ) → i < n → f i < N) → ((i j : ℕ) → i < j → j < n → f i ≡ f j → ⊥) →
    count_below N (λ u. any_below n (λ i. eqb (f i) u)) ≡ n
unfolding count_below any_below
count_values N f zero low different = sum_zero (λ u. 0) N (λ u l. refl)
count_values N f (suc n) low different =
    count_added N (λ u. any_below n (λ i. eqb (f i) u)) (λ u. any_below (suc n) (λ i. eqb (f i) u)) (f n)
    (low n (omega arith))
    (any_each (λ i. eqb (f i) (f n)) n (λ i l. ne_eqb (f i) (f n) (different i n l (omega arith))))
    (λ u. refl)
    ∙ ap suc (count_values N f n (λ i l. low i (omega arith)) (λ i j l m. different i j l (omega arith)))

-- the number of users of a group whose users are bytes and all differ
pub users_all : (g : List ℕ) → ((i : ℕ) → i < entry_count g → entry_user g i < 256) →
    ((i j : ℕ) → i < j → j < entry_count g → entry_user g i ≡ entry_user g j → ⊥) → user_num g ≡ entry_count g
unfolding user_num
users_all g = count_values 256 (entry_user g) (entry_count g)

-- a granted group has as many users as entries, where there are at most 256 users
pub users_granted : {U R : ℕ} {may : ℕ → ℕ → Bool} {out : ℕ → Bool} {weigh : ℕ → ℕ} {condition : ℕ → ℕ → ℕ → Bool}
    (g : List ℕ) → Granted U R may out weigh condition g → U ≤ 256 → user_num g ≡ entry_count g
users_granted g w few = users_all g (λ i l. let k = w.user i l in omega arith) w.different

-- so has a group granted by any rules
pub granted_users : (rules b : List ℕ) (at : Context) (p : ℕ) (g : List ℕ) → decision_by rules b at p g ≡ 0 →
    user_num g ≡ entry_count g
granted_users rules b at p g h =
    let (ok, _, _, w) = (granted_by rules b at p g).0 h in
    users_granted g w (counts_bytes b ok).0
