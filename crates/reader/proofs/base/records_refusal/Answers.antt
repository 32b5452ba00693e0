-- `records_refusal` is a chain of six tests, each on a table and the numbers of roles and permissions that were read.
use Rattle.std.proofs.Common.{rules}
use Rattle.reader.specs.Rules.{records_refusal}
use Rattle.reader.proofs.base.records_refusal.Goals as goal

pub returns-then-hierarchy_bad : goal.returns-then-hierarchy_bad
unfolding records_refusal
returns-then-hierarchy_bad c = search rules

pub returns-then-users_bad : goal.returns-then-users_bad
unfolding records_refusal
returns-then-users_bad c = search rules

pub returns-then-clauses_bad : goal.returns-then-clauses_bad
unfolding records_refusal
returns-then-clauses_bad c = search rules

pub returns-then-contexts_bad : goal.returns-then-contexts_bad
unfolding records_refusal
returns-then-contexts_bad c = search rules

pub returns-then-policies_bad : goal.returns-then-policies_bad
unfolding records_refusal
returns-then-policies_bad c = search rules

pub returns-then-exclusions_bad : goal.returns-then-exclusions_bad
unfolding records_refusal
returns-then-exclusions_bad c = search rules

pub returns : goal.returns
unfolding records_refusal
returns c = search rules
