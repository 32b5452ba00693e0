-- `hierarchy_bad` meets its contract: its test is the contract's, with `not below` as `at most`.
use Rattle.std.proofs.Common.{rules, tests, length, ◌/◌}
use Rattle.folds.proofs.Bools.{not_ltb}
use Rattle.folds.proofs.Chains.{any_of_range}
use Rattle.reader.specs.Rules.{hierarchy_record_bad, hierarchy_bad}
use Rattle.reader.proofs.records.hierarchy_bad.Goals as goal

pub returns : goal.returns
unfolding hierarchy_bad
returns c =
    any_of_range (hierarchy_record_bad c.args.roles c.args.h.now) (length c.args.h.now / 2) _ _ _ (cc)
    (λ x b q k. simp not_ltb (search (rules, tests))) c.any.ensures.ran
