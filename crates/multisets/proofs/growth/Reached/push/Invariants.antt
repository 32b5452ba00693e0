use Rattle.std.proofs.Common.{ℕ, ◌+◌, ◌*◌, ◌≤◌, ◌<◌, List, ◌≡◌, take, drop, get_or}
use Rattle.multisets.specs.Ends.{Filled}
use Rattle.multisets.proofs.growth.Reached.push.Given as goal

-- the next ends from one on, role by role
abbrev pub row : ℕ → List ℕ → ℕ → List ℕ
row d nexts end = take d (drop (8 * end) nexts)

-- the entries of place i for the roles below q are done, and its end, which is one, stays; what is left of its row and
-- of the numbers begins with role q
pub record Turn (d : ℕ) (nexts up : List ℕ) (i end q : ℕ) (rest rest_up ends from : List ℕ) : Type 0 where
  pub within : q ≤ d
  pub filled : Filled d nexts (8 * i + q) ends from
  pub stays : get_or ends i 0 ≡ end
  pub reached : end < 255
  pub left : rest ≡ drop q (row d nexts end)
  pub left_up : rest_up ≡ drop q up

abbrev pub invariant-loop-q : goal.invariant-loop-q
invariant-loop-q g l =
    let items = l.q-iterator in
    Turn l.users.d l.users.nexts l.up l.i l.end items.count items.iter.a.rest.now items.iter.b.rest.now l.self.ends
    l.self.from
