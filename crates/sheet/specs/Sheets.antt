-- A sheet that collects signatures for one permission: what it holds, and what opening, signing, withdrawing and asking
-- give.
use Rattle.std.specs.Prelude.{ℕ, ◌+◌, ◌*◌, ◌-◌, Bool, not, cond, List, [], ◌∷◌, ◌++◌, length, take, replicate, ltb, eqb}
use Rattle.std.proofs.lemmas.List.Edits.{sets}
use Rattle.folds.specs.Below.{any_below, join_below}
use Rattle.reader.specs.Tables.{role_count, permission_count, user_count}
use Rattle.reader.specs.Rules.{refusal_of}
use Rattle.weights.specs.declared.Context.{Context}
use Rattle.weights.specs.Acting.{may_act}
use Rattle.decision.specs.Groups.{entry_count, entry_user, entry_role, unknown}
use Rattle.decision.specs.Decision.{decision_of}
use Rattle.sheet.specs.declared.Sheet.{Sheet}

-- what opening, signing and withdrawing answer, 0 or a refusal, and the sheet afterwards
pub record Outcome : Type 0 where
  pub refusal : ℕ
  pub sheet : Sheet

-- how many entries a sheet that claims n holds: six where it claims over six
abbrev pub held_count : ℕ → ℕ
held_count n = cond (ltb 6 n) 6 n

-- what the sheet holds: the bytes of its entries, user and role acted in, in order of acceptance
abbrev pub held_on : Sheet → List ℕ
held_on s = take (2 * held_count s.count) s.entries

-- the unsigned sheet for permission p
abbrev pub unsigned : ℕ → Sheet
unsigned p = record { permission = p; count = 0; entries = replicate 12 0 }

-- the first of refusals 1 to 10 that applies to an opening for permission p, or 0
unfoldable pub open_refusal : List ℕ → ℕ → ℕ
open_refusal b p =
    cond (not (eqb (refusal_of b) 0)) (refusal_of b)
    (cond (not (ltb p (permission_count b))) 10 0)

-- the permission that the sheet of an opening is for: the one asked for, 255 where the opening is refused
unfoldable pub opened_for : List ℕ → ℕ → ℕ
opened_for b p = cond (eqb (open_refusal b p) 0) p 255

-- opening: the unsigned sheet for that permission
abbrev pub opened : List ℕ → ℕ → Outcome
opened b p = record { refusal = open_refusal b p; sheet = unsigned (opened_for b p) }

-- user u has one of the entries held: refusal 14 for a new entry of that user; of a withdrawal, that 23 does not apply
unfoldable pub stands_in : List ℕ → ℕ → Bool
unfolding any_below
stands_in held u = any_below (entry_count held) (λ i. eqb (entry_user held i) u)

-- the first of refusals 1 to 9, 13, 14, 15 and 20 that applies to a signing by user u in role r, or 0; 13 to 15 for the
-- new entry alone, 20 where six entries are held already. No date is known, so no 24: the user's days play no part
unfoldable pub sign_refusal : List ℕ → List ℕ → ℕ → ℕ → ℕ
unfolding stands_in
sign_refusal b held u r =
    cond (not (eqb (refusal_of b) 0)) (refusal_of b)
    (cond (unknown (user_count b) (role_count b) u r) 13
    (cond (stands_in held u) 14
    (cond (not (may_act b u r)) 15
    (cond (not (ltb (entry_count held) 6)) 20 0))))

-- the entry behind those claimed, one more claimed, every other byte as it was
abbrev pub with_entry : Sheet → ℕ → ℕ → Sheet
with_entry s u r =
    record {
      permission = s.permission;
      count = s.count + 1;
      entries = sets s.entries (2 * s.count) (u ∷ r ∷ []);
    }

-- signing: the sheet with the entry; refused, the sheet as it was
unfoldable pub signed : List ℕ → Sheet → ℕ → ℕ → Outcome
unfolding sign_refusal
signed b s u r =
    let refusal = sign_refusal b (held_on s) u r in
    record { refusal = refusal; sheet = cond (eqb refusal 0) (with_entry s u r) s }

-- the sheet for permission p that holds these entries: the count is their number, every byte behind them 0
unfoldable pub holding : ℕ → List ℕ → Sheet
holding p held =
    record { permission = p; count = entry_count held; entries = held ++ replicate (12 - length held) 0 }

-- those of the entries whose user and role stay, in their order
unfoldable pub staying : (ℕ → ℕ → Bool) → List ℕ → List ℕ
unfolding join_below
staying stays held =
    join_below (entry_count held)
    (λ i.
    let user = entry_user held i in
    let role = entry_role held i in
    cond (stays user role) (user ∷ role ∷ []) [])

-- another user than u, in whatever role
abbrev pub is_another : ℕ → ℕ → ℕ → Bool
is_another u user role = not (eqb user u)

-- the entries of all users but u, in their order
abbrev pub entries_without : ℕ → List ℕ → List ℕ
entries_without u held = staying (is_another u) held

-- refusal 23 of a withdrawal of user u, or 0: the user has no entry on the sheet
unfoldable pub withdraw_refusal : List ℕ → ℕ → ℕ
unfolding stands_in
withdraw_refusal held u = cond (stands_in held u) 0 23

-- withdrawal: the sheet that holds the entries of all others; refused, the sheet as it was
unfoldable pub withdrawn : Sheet → ℕ → Outcome
unfolding withdraw_refusal holding
withdrawn s u =
    let refusal = withdraw_refusal (held_on s) u in
    record {
      refusal = refusal;
      sheet = cond (eqb refusal 0) (holding s.permission (entries_without u (held_on s))) s;
    }

-- asking: the decision for the sheet's permission and the entries that it holds, with 24 by the context's date
abbrev pub asked : List ℕ → Sheet → Context → ℕ
asked b s at = decision_of b at s.permission (held_on s)
