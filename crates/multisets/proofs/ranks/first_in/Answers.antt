-- The levels of fewer roles have as many multisets as the next start says.
use Rattle.std.proofs.Common.{ℕ, suc, ◌+◌, ◌-◌, ◌≡◌, sym, ap, ◌∙◌, arith}
use Rattle.multisets.specs.Ranks.{starts, first}
use Rattle.multisets.proofs.Places.{first_0, first_is}
use Rattle.multisets.proofs.ranks.first_in.Goals as goal

-- those of n roles start where there are so many multisets of a role less with one role more
first_at : (d n : ℕ) → (n ≡ 0 → ⊥) → starts (n - 1) (d + 1) ≡ first d n
first_at d n some =
    let a : n ≡ suc (n - 1) = omega (arith, some) in
    let b : d + 1 ≡ suc d = omega arith in
    rw b (sym (first_is d (n - 1)) ∙ ap (first d) (sym a))

pub returns-then-n-eq0 : goal.returns-then-n-eq0
returns-then-n-eq0 c = (rw c.if-n-eq0.true (sym (first_0 c.args.d)), omega arith)

pub returns : goal.returns
returns c =
    let (is, most) = c.start_in.ensures in
    (is ∙ first_at c.args.d c.args.n c.if-n-eq0.false, most)
