-- What an answer that carries a number says.
use Prim.Native.Nat.{ℕ}
use mathlib.Core.Logic.{⊎_elim}
use mathlib.Core.Path.{◌≡◌, sym}
use borrow.Author.Tests.{eqb-true, ne_eqb}
use lib.Dec.{eqb}
use Rattle.folds.proofs.Bools.{met_or_not}
use Rattle.reader.specs.declared.Answer.{Answer}
use Rattle.reader.specs.Answers.{answered}

module _ (r k : ℕ) where
  -- the answer of a refusal, and that of 0
  pub answered_refused : {n : ℕ} → n ≡ r → (n ≡ 0 → ⊥) →
      ◌≡◌ {A = Answer} (record { refusal = n; count = 0 }) (answered r k)
  unfolding answered
  answered_refused {n} e h = rw (← e, ne_eqb n 0 h)

  pub answered_done_lem : {n : ℕ} → r ≡ 0 → n ≡ k → ◌≡◌ {A = Answer} (record { refusal = 0; count = n }) (answered r k)
  unfolding answered
  answered_done_lem h e = rw (h, e)

-- the refusal that it gives
pub refusal_in : (r k : ℕ) → (answered r k).refusal ≡ r
unfolding answered
refusal_in r k = ⊎_elim (λ e. rw e (sym (eqb-true r 0 e))) (λ e. rw e) (met_or_not (eqb r 0))

-- and the number that it carries, where there is none
pub count_in : (r k : ℕ) → r ≡ 0 → (answered r k).count ≡ k
unfolding answered
count_in r k h = rw h
