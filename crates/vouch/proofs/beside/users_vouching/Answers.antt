-- `users_vouching` meets its contract: each statement that serves adds its issuer to the set of its permission.
use Rattle.std.proofs.Common.{ℕ, ◌^◌, Bool, not, ◌&&◌, List, ◌≡◌, eqb, leb, get_or, set, bit_or, ap, arith}
use mathlib.Core.Path.{sym, ◌∙◌}
use Rattle.reader.specs.Rules.{outside}
use Rattle.vouch.specs.Register.{requester, trust, valid_from, valid_to}
use Rattle.vouch.proofs.Gathering.{serves, vouching_none, one_passed, one_added, vouching_all}
use Rattle.vouch.proofs.beside.users_vouching.Goals as goal
use Rattle.vouch.proofs.beside.users_vouching.Goals.{then-serves, else-serves}

-- what is asked of a statement read is asked of its record
serves_is : (register : List ℕ) (threshold date q i : ℕ) {r t first last : ℕ} {b : Bool} →
    b ≡ (eqb r q && (leb threshold t && not (outside first last date))) → r ≡ requester register i →
    t ≡ trust register i → first ≡ valid_from register i → last ≡ valid_to register i →
    serves register threshold date q i ≡ b
serves_is register threshold date q i is a b d e = sym (rw (a, b, d, e) at is)

-- the store of an issuer's bit
added_as : (v : List ℕ) (P I : ℕ) {f b : ℕ} → f ≡ P → b ≡ 2 ^ I →
    set v f (bit_or (get_or v f 0) b) ≡ set v P (bit_or (get_or v P 0) (2 ^ I))
added_as v P I e h = rw (e, h)

pub loop-i-init : goal.loop-i-init
loop-i-init c = vouching_none _ _ _ _

pub loop-i-preserved : goal.loop-i-preserved
loop-i-preserved c =
    let yet = c.loop-i.invariant in
    let (by, to, at, degree, first, last) = c.of-statement.ensures in
    let tested = serves_is c.args.register.now c.args.threshold c.args.date c.args.requester c.loop-i.i
    c.serves.ensures to degree first last in
    elim c.if-serves.branch [
      | then-serves w ↦
          let added = one_added _ _ _ _ yet (tested ∙ w.if-serves.true) (c.requires.permission _ c.loop-i-test.true) in
          let one = w.bit.ensures ∙ ap (λ (u : ℕ). 2 ^ u) by in
          rw (w.vouching-is, added_as c.loop-i.vouching _ _ (w.from.ensures ∙ at) one) added
      | else-serves w ↦ rw w.vouching-is (one_passed _ _ _ _ yet (tested ∙ w.if-serves.false))
    ]

pub returns : goal.returns
returns c = vouching_all _ _ _ _ c.loop-i.invariant (omega arith)
