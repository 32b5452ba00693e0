-- What signing gives, and that it passes exactly if none of its refusals applies.
use Prim.Native.Nat.{ℕ, ◌<◌}
use mathlib.Core.Bool.{true, false, not}
use mathlib.Core.Path.{◌≡◌}
use mathlib.Core.List.{List}
use borrow.Author.Tests.{ltb-true, lt-ltb, ne_eqb, not-false}
use lib.Dec.{ltb}
use Rattle.folds.proofs.Bools.{or_left, or_right, none_met, none_refused}
use Rattle.reader.specs.Tables.{role_count, user_count}
use Rattle.reader.specs.Rules.{refusal_of}
use Rattle.weights.specs.Acting.{may_act}
use Rattle.decision.specs.Groups.{entry_count}
use Rattle.sheet.specs.declared.Sheet.{Sheet}
use Rattle.sheet.specs.Sheets.{Outcome}
use Rattle.sheet.specs.Sheets.{held_on, stands_in, sign_refusal, with_entry, signed}

-- none of 1 to 9, 13, 14, 15 and 20 applies
pub record Passes (b held : List ℕ) (u r : ℕ) : Type 0 where
  pub ok : refusal_of b ≡ 0
  pub user : u < user_count b
  pub role : r < role_count b
  pub new : stands_in held u ≡ false
  pub acting : may_act b u r ≡ true
  pub room : entry_count held < 6

-- a refused signing gives the sheet as it was, one that isn't refused the sheet with the entry
module _ (b : List ℕ) (s : Sheet) (u r : ℕ) where
  pub signed_refused : {n : ℕ} → n ≡ sign_refusal b (held_on s) u r → (n ≡ 0 → ⊥) →
      ◌≡◌ {A = Outcome} (record { refusal = n; sheet = s }) (signed b s u r)
  unfolding signed
  signed_refused {n} e h = rw (← e, ne_eqb n 0 h)

  pub signed_done : {with : Sheet} → sign_refusal b (held_on s) u r ≡ 0 → with ≡ with_entry s u r →
      ◌≡◌ {A = Outcome} (record { refusal = 0; sheet = with }) (signed b s u r)
  unfolding signed
  signed_done e h = rw (e, h)

module _ (b held : List ℕ) (u r : ℕ) where
  pub sign_passes : sign_refusal b held u r ≡ 0 → Passes b held u r
  unfolding sign_refusal
  sign_passes h =
      let (ok, past9) = none_refused (refusal_of b) _ h in
      let (known, past13) = none_met _ 12 past9 in
      let (new, past14) = none_met _ 13 past13 in
      let (acting, past15) = none_met _ 14 past14 in
      let (room, _) = none_met _ 19 past15 in
      record {
        ok = ok;
        user = ltb-true _ _ (not-false _ (or_left _ _ known));
        role = ltb-true _ _ (not-false _ (or_right (not (ltb u (user_count b))) _ known));
        new = new;
        acting = not-false _ acting;
        room = ltb-true _ _ (not-false _ room);
      }

  pub passes_sign : Passes b held u r → sign_refusal b held u r ≡ 0
  unfolding sign_refusal
  passes_sign p = rw (p.ok, lt-ltb _ _ p.user, lt-ltb _ _ p.role, p.new, p.acting, lt-ltb _ _ p.room)
