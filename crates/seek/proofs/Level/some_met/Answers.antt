-- The clauses of the eight places are joined.
use Rattle.std.proofs.Common.{ℕ, ◌+◌, ◌-◌, ◌≡◌, List, take, drop, rules, arith}
use Rattle.std.proofs.lemmas.Iterator.{YieldsList-from_slice, YieldsList-from_zip}
use Rattle.std.proofs.lemmas.Iterator.Consumers.{fold_from_yields_List}
use Rattle.seek.proofs.Eights.{joined, some_joined, fold_serves, pair_masked}
use Rattle.seek.proofs.Level.some_met.Goals as goal

pub fold-requires-clause-callable : goal.fold-requires-clause-callable
fold-requires-clause-callable g c =
    let a = c.args in
    let l = a.self.now in
    let xs : List ℕ = take (a.x + 8 - a.x) (drop a.x l.sums.now) in
    let ys : List ℕ = take (a.x + 8 - a.x) (drop a.x l.roles.now) in
    fold_serves (YieldsList-from_zip (YieldsList-from_slice xs cc) (YieldsList-from_slice ys cc))
    (λ s p t q k. search rules)
    (λ s p k low is. (omega arith, pair_masked _ c.requires.0 (omega arith) (p.0.now, p.1.now) k low is))

pub returns : goal.returns
returns g c =
    let a = c.args in
    let l = a.self.now in
    let m = l.condition in
    let p = c.requires in
    let eight : a.x + 8 - a.x ≡ 8 = omega arith in
    let xs : List ℕ = take (a.x + 8 - a.x) (drop a.x l.sums.now) in
    let ys : List ℕ = take (a.x + 8 - a.x) (drop a.x l.roles.now) in
    let is = fold_from_yields_List _ (joined m.front m.above.now m.masks.now.sets) 0 c.fold.result c.fold.ensures.ran
    (YieldsList-from_zip (YieldsList-from_slice xs cc) (YieldsList-from_slice ys cc)) (λ s p t q k. search rules) in
    rw (is, eight) (some_joined m.front m.above.now m.masks.now.sets l.sums.now l.roles.now a.x 8 p.0.sums_room
    p.0.roles_room)
