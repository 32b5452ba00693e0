-- Role by role, what the roles before it weigh.
use Rattle.std.proofs.Common.{rules, List, ℕ, Option, Some, None, arith}
use Rattle.std.specs.Prelude.{unwrap_or}
use Rattle.masks.specs.declared.Weighed.{Weighed}
use Rattle.fewest.specs.Search.{WeighedBelow, WeighedSome}
use Rattle.folds.proofs.Folds.{fold_of_range}
use Rattle.fewest.proofs.weighing.weighed.Goals as goal

-- where no role has weight all is 0
all_weighed : {w : List ℕ} (o : Option Weighed) → WeighedSome w 8 o →
    WeighedBelow w 8 (unwrap_or o (record { light = 0; heavy = 0; end = 0 }))
all_weighed None h = record {
  light = λ r l some. omega arith;
  heavy = λ r l. omega (arith, h r l);
  before = λ r l some. omega (arith, h r l);
  within = omega arith;
  last = λ some. absurd (omega arith);
  some = λ some. absurd (omega arith);
  ordered = omega arith;
  most = omega arith;
}
all_weighed (Some s) h = h.0

pub returns : goal.returns
returns c =
    let w = c.args.w in
    let all =
    fold_of_range 8 (cc) (WeighedSome w) (λ x a b q l j k. search rules) (search rules) c.fold.ensures.ran in
    rw c.unwrap_or.ensures (all_weighed c.fold.result all)
