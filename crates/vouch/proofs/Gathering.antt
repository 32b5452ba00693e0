-- Statement by statement, the users who vouch are gathered in the set of its permission.
use Prim.Native.Nat.{ℕ, ◌+◌, ◌^◌, ◌%◌, ◌<◌, ◌≤◌}
use mathlib.Core.Bool.{Bool, true, false, false≢true, not, ◌&&◌, ◌||◌, and-false, and-true, or-false}
use mathlib.Core.List.{List}
use mathlib.Core.Logic.{⊎_elim}
use mathlib.Core.Path.{◌≡◌, refl, sym, ap, ◌∙◌}
use native.Mathlib.Omega.{arith}
use borrow.Author.Tests.{eqb-true, eqb-false, ltb-true, not-false}
use Rattle.std.proofs.lemmas.Grind.{get_or-set_at}
use Rattle.std.proofs.lemmas.List.{get_or-set_other, length-set}
use lib.Bits.{bit_or}
use lib.Dec.{ltb, eqb}
use lib.ListN.{length, get_or, set, replicate}
use Rattle.folds.specs.Below.{any_below}
use Rattle.folds.specs.Sets.{in_set}
use Rattle.folds.proofs.Bools.{met_or_not, or_left, or_right}
use Rattle.folds.proofs.Lists.{zero_at}
use Rattle.folds.proofs.Sets.{in_none, in_added}
use Rattle.folds.proofs.Tests.{any_none, any_next, any_at}
use Rattle.vouch.specs.Register.{register_limit, register_refused, statement_bad}
use Rattle.vouch.specs.Register.{statement_count, issuer, requester, stated_permission}
use Rattle.vouch.specs.Vouching.{valid, states, vouches}
use Rattle.vouch.specs.Beside.{Named, Vouching}

-- a register that isn't refused names only users and permissions that are there
pub named : (register : List ℕ) (U P : ℕ) → U ≤ 24 → P ≤ 16 → register_refused U P register ≡ false → Named register
unfolding register_refused
named register U P users permissions fine =
    let rest = or_right (not (eqb (length register % 8) 0)) _ fine in
    let none = any_at (statement_bad U P register) (statement_count register)
    (or_right (ltb register_limit (length register)) _ rest) in
    record {
      user = λ i l.
          let k : issuer register i < U = ltb-true _ _ (not-false _ (or_left _ _ (none i l))) in
          omega arith;
      permission = λ i l.
          let past_issuer = or_right (not (ltb (issuer register i) U)) _ (none i l) in
          let past = or_right (not (ltb (requester register i) U)) _ past_issuer in
          let k : stated_permission register i < P = ltb-true _ _ (not-false _ (or_left _ _ past)) in
          omega arith;
    }

-- a statement's tests, of issuer, requester, permission and validity: by the second and the last together, and the
-- third
says_not : (a b p v : Bool) → (b && v) ≡ false → (a && (b && (p && v))) ≡ false
says_not true true p v h = rw h (and-false p)
says_not true false p v h = refl
says_not false b p v h = refl

says_other : (a b p v : Bool) → p ≡ false → (a && (b && (p && v))) ≡ false
says_other a b p v h = rw (h, and-false, and-false)

says_issuer : (a b p v : Bool) → (b && v) ≡ true → p ≡ true → (a && (b && (p && v))) ≡ a
says_issuer a true p v h k = rw (k, h, and-true)
says_issuer a false p v h k = absurd (false≢true h)

module _ (register : List ℕ) (threshold date q : ℕ) where
  -- statement i is one to the requester, with so much trust and valid on the date
  abbrev pub serves : ℕ → Bool
  serves i = eqb (requester register i) q && valid register threshold date i

  -- of the first i statements
  pub record VouchingYet (i : ℕ) (vouching : List ℕ) : Type 0 where
    pub size : length vouching ≡ 16
    pub user : (p u : ℕ) → p < 16 →
        in_set (get_or vouching p 0) u ≡ any_below i (states register threshold p date u q)

  empty : (p u : ℕ) → in_set (get_or {A = ℕ} (replicate 16 0) p 0) u ≡ false
  empty p u = rw (zero_at 16 p) (in_none u)

  pub vouching_none : VouchingYet 0 (replicate 16 0)
  vouching_none = record {
    size = refl;
    user = λ p u l. empty p u ∙ sym (any_none (states register threshold p date u q));
  }

  module _ {i : ℕ} {vouching : List ℕ} (yet : VouchingYet i vouching) where
    -- a statement says so of those that are asked about by these tests
    abbrev says : ℕ → ℕ → Bool
    says p u = states register threshold p date u q i

    more : (p u : ℕ) {t : Bool} → says p u ≡ t →
        any_below (i + 1) (states register threshold p date u q)
        ≡ (any_below i (states register threshold p date u q) || t)
    more p u e =
        any_next (states register threshold p date u q) i
        ∙ ap (λ (t : Bool). any_below i (states register threshold p date u q) || t) e

    -- a statement that doesn't count changes nothing
    pub one_passed : serves i ≡ false → VouchingYet (i + 1) vouching
    one_passed fails = record {
      size = yet.size;
      user = λ p u l.
          let none = says_not (eqb (issuer register i) u) _ (eqb (stated_permission register i) p) _ fails in
          yet.user p u l ∙ sym (more p u none ∙ or-false _);
    }

    -- the set of its permission has the issuer of one that counts
    module _ (met : serves i ≡ true) (there : stated_permission register i < 16) where
      abbrev at : ℕ
      at = stated_permission register i

      abbrev added : List ℕ
      added = set vouching at (bit_or (get_or vouching at 0) (2 ^ issuer register i))

      here : (p u : ℕ) → p < 16 → eqb at p ≡ true →
          in_set (get_or added p 0) u ≡ any_below (i + 1) (states register threshold p date u q)
      here p u l e =
          let same : at ≡ p = eqb-true _ _ e in
          let stays : in_set (get_or vouching at 0) u ≡ any_below i (states register threshold p date u q) =
          ap (λ (j : ℕ). in_set (get_or vouching j 0) u) same ∙ yet.user p u l in
          let stored = get_or-set_at vouching at p (bit_or (get_or vouching at 0) (2 ^ issuer register i)) 0 (sym same)
          (omega (arith, yet.size)) in
          ap (λ (s : ℕ). in_set s u) stored ∙ in_added (get_or vouching at 0) (issuer register i) u
          ∙ ap (λ (t : Bool). t || eqb (issuer register i) u) stays
          ∙ sym (more p u (says_issuer (eqb (issuer register i) u) _ _ _ met e))

      elsewhere : (p u : ℕ) → p < 16 → eqb at p ≡ false →
          in_set (get_or added p 0) u ≡ any_below (i + 1) (states register threshold p date u q)
      elsewhere p u l e =
          let apart = get_or-set_other vouching at p (bit_or (get_or vouching at 0) (2 ^ issuer register i)) 0
          (λ z. eqb-false _ _ e (sym z)) in
          ap (λ (s : ℕ). in_set s u) apart ∙ yet.user p u l
          ∙ sym (more p u (says_other (eqb (issuer register i) u) _ _ _ e) ∙ or-false _)

      pub one_added : VouchingYet (i + 1) added
      one_added = record {
        size = length-set vouching at _ ∙ yet.size;
        user = λ p u l. ⊎_elim (here p u l) (elsewhere p u l) (met_or_not (eqb at p));
      }

  -- at the end
  pub vouching_all : {i : ℕ} {vouching : List ℕ} → VouchingYet i vouching → i ≡ statement_count register →
      Vouching register threshold date q vouching
  unfolding vouches
  vouching_all yet e = record { user = λ p u l. rw e at (yet.user p u l) }
