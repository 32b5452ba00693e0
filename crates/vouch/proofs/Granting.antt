-- The law of granting for the vouching chain: what the first chain grants, of users who vouch for the requester.
use Prim.Native.Nat.{ℕ, zero, suc, ◌<◌}
use mathlib.Core.Bool.{Bool, false, not, ◌&&◌, and-false}
use mathlib.Core.Path.{◌≡◌, refl}
use mathlib.Core.Logic.{◌↔◌}
use mathlib.Core.List.{List}
use native.Mathlib.Omega.{arith}
use borrow.Author.Tests.{lt-ltb, not-false}
use lib.Dec.{ltb}
use Rattle.folds.proofs.Bools.{none_met, none_refused}
use Rattle.folds.proofs.Tests.{any_at, any_each}
use Rattle.decision.specs.Groups.{entry_count, entry_user, members_refusal, some_out_of_date}
use Rattle.decision.specs.Groups.{group_refusal}
use Rattle.decision.proofs.Granting.{granting}
use Rattle.vouch.specs.Vouching.{some_unvouched, vouched_refusal}
use Rattle.vouch.specs.Granting.{Vouched, GrantedVouched}

module _ (vouches : ℕ → ℕ → Bool) (g : List ℕ) where
  -- entry i isn't the first, and its user doesn't vouch for the first entry's
  abbrev unvouched : ℕ → Bool
  unvouched i = ltb 0 i && not (vouches (entry_user g i) (entry_user g 0))

  each_vouched : Vouched vouches g → (i : ℕ) → i < entry_count g → unvouched i ≡ false
  each_vouched v zero l = refl
  each_vouched v (suc i) l = rw (v (suc i) (omega arith) l, and-false)

  -- 26 doesn't apply exactly where every entry but the first is of a user who vouches for the first entry's
  pub vouched_lem : (some_unvouched vouches g ≡ false) ↔ Vouched vouches g
  unfolding some_unvouched
  vouched_lem = (
    λ h i later l. not-false _ (rw (lt-ltb 0 i later) at (any_at unvouched (entry_count g) h i l)),
    λ v. any_each unvouched (entry_count g) (each_vouched v),
  )

module _ (U R : ℕ) (may : ℕ → ℕ → Bool) (out : ℕ → Bool) (vouches : ℕ → ℕ → Bool) (weigh : ℕ → ℕ)
    (condition : ℕ → ℕ → ℕ → Bool) (g : List ℕ) where
  -- the vouching chain gives 0 exactly where the first chain does and every entry but the first is vouched for
  pub vouched_chain : (vouched_refusal U R may out vouches weigh condition g ≡ 0) ↔
      ((group_refusal U R may out weigh condition g ≡ 0) × Vouched vouches g)
  unfolding vouched_refusal group_refusal
  vouched_chain = (
    λ h.
        let (members, past15) = none_refused (members_refusal U R may g) _ h in
        let (on, past24) = none_met (some_out_of_date out g) 23 past15 in
        let (vouched, past26) = none_met (some_unvouched vouches g) 25 past24 in
        (rw (members, on) past26, (vouched_lem vouches g).0 vouched),
    λ (h, v).
        let (members, past15) = none_refused (members_refusal U R may g) _ h in
        let (on, past24) = none_met (some_out_of_date out g) 23 past15 in
        rw (members, on, (vouched_lem vouches g).1 v) past24,
  )

  -- the law of granting for the vouching chain, for whatever it is handed
  pub vouched_granting : (vouched_refusal U R may out vouches weigh condition g ≡ 0) ↔
      GrantedVouched U R may out vouches weigh condition g
  vouched_granting = (
    λ h.
        let (first, vouched) = vouched_chain.0 h in
        record { granted = (granting U R may out weigh condition g).0 first; vouched = vouched },
    λ d. vouched_chain.1 ((granting U R may out weigh condition g).1 d.granted, d.vouched),
  )
