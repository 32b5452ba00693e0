-- The table read is the base's, and the pass over it gives what the base has.
use Rattle.std.proofs.Common.{◌≡◌, ℕ, List}
use Rattle.reader.specs.Tables.{policies, table_of, record_count}
use Rattle.reader.specs.Rules.{refusal_of}
use Rattle.weights.specs.declared.Fixed.{Fixed}
use Rattle.weights.specs.Setting.{rules_of, FixedBy, AreChosen, ChosenBy}
use Rattle.weights.proofs.Weigh.{chosen_by}
use Rattle.weights.proofs.choose.Goals as goal

-- of plain values: by the same table and the same rules
by_rules : {b t : List ℕ} {s : Fixed} {rules owns inhs : List ℕ} → refusal_of b ≡ 0 → FixedBy b s →
    t ≡ table_of b policies → rules ≡ rules_of s → AreChosen rules s.contexts t (record_count policies t) owns inhs →
    ChosenBy (rules_of s) b s.at owns inhs
by_rules {b} {s = s} {rules = rules} ok fixed is same are = rw same at (chosen_by b ok s fixed rules (rw is at are))

pub returns : goal.returns
returns c =
    by_rules c.policies.ensures.accepted c.requires c.policies.ensures.policies c.as_slice.ensures c.choose.ensures
