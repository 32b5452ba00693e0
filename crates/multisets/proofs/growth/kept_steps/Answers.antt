-- Each number is made by itself: 1 for a role below r, else 0.
use Rattle.std.proofs.Common.{ℕ, ◌≤◌, ◌<◌, ◌≡◌, rules, tests}
use Rattle.folds.proofs.Arrays.{made_each}
use Rattle.multisets.proofs.growth.kept_steps.Goals as goal

-- the number of role q
abbrev Step : (r q x : ℕ) → Type 0
Step r q x = (q < r → x ≡ 1) × (r ≤ q → x ≡ 0)

pub returns : goal.returns
returns c =
    let made = made_each (Step c.args.r) _ 8 c.from_fn.ensures.items (λ k y q l b. search (rules, tests)) in
    record {
      size = c.from_fn.ensures.items.long;
      below = λ q low l. (made q 0 l).0 low;
      above = λ q high l. (made q 0 l).1 high;
    }
