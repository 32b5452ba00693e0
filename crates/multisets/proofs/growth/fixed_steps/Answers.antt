-- Each of the eight numbers by the starts of two levels.
use Rattle.std.proofs.Common.{ℕ, suc, ◌+◌, ◌-◌, ◌≤◌, ◌<◌, ◌≡◌, rules, tests, arith}
use Rattle.multisets.specs.Ranks.{starts}
use Rattle.multisets.proofs.Rows.{starts_more}
use Rattle.folds.proofs.Arrays.{made_each}
use Rattle.multisets.proofs.growth.fixed_steps.Goals as goal

-- a level has no fewer multisets than the one before
less : (n r : ℕ) {high low : ℕ} → high ≡ starts (n + 2) r → low ≡ starts (n + 1) r → low ≤ high
less n r a b =
    let two : n + 2 ≡ suc (suc n) = omega arith in
    let one : n + 1 ≡ suc n = omega arith in
    omega (arith, rw two at a, rw one at b, starts_more n r)

-- the number of role q
abbrev Step : (n r low q x : ℕ) → Type 0
Step n r low q x = (q < r → x ≡ low) × (r ≤ q → x ≡ starts (n + 2) q) × (x ≤ 3003)

pub overflow_sub-low : goal.overflow_sub-low
overflow_sub-low c = less c.args.n c.args.r c.start_in.ensures.0 c.start_in-2.ensures.0

pub returns : goal.returns
returns c =
    let two : c.args.n + 2 ≡ suc (suc c.args.n) = omega arith in
    let one : c.args.n + 1 ≡ suc c.args.n = omega arith in
    let high = rw two at c.start_in.ensures.0 in
    let low = rw one at c.start_in-2.ensures.0 in
    let no_less = less c.args.n c.args.r c.start_in.ensures.0 c.start_in-2.ensures.0 in
    let lies = c.start_in.result - c.start_in-2.result in
    let step = Step c.args.n c.args.r lies in
    let made = made_each step _ 8 c.from_fn.ensures.items (λ k y q l b. search (rules, tests)) in
    record {
      size = c.from_fn.ensures.items.long;
      below = λ q h l. let is = (made q 0 l).0 h in omega (arith, high, low, no_less);
      above = λ q h l. rw two at ((made q 0 l).1 h);
      most = λ q l. (made q 0 l).2;
    }
