-- `contradictions` meets its contract: the rows by the related slots are those of the rules.
use Rattle.std.proofs.Common.{ℕ, ◌≡◌, ◌/◌, List, length, rules, arith}
use Rattle.folds.specs.Sets.{in_set}
use Rattle.reader.specs.Tables.{contexts, policies, table_of}
use Rattle.reader.specs.Rules.{refusal_of}
use Rattle.reader.proofs.Accepted.{accepted, policies_wider}
use Rattle.related.specs.Slots.{named, Relations}
use Rattle.related.proofs.Relating.{whole_contexts}
use Rattle.conflicts.specs.Rows.{contradict_by, Rows, Contradictions}
use Rattle.conflicts.proofs.Found.{contradictions_found}
use Rattle.conflicts.proofs.rows.contradictions.Goals as goal

-- the rows of tables read are those of the base
found : (b : List ℕ) {a c related rows : List ℕ} {names : ℕ} → refusal_of b ≡ 0 →
    a ≡ table_of b policies → c ≡ table_of b contexts →
    Relations c names related → ((s : ℕ) → in_set names s ≡ named a s) →
    Rows (length a / 8) (length a / 8) (contradict_by related a) rows → Contradictions b rows
found b ok a_is c_is relations named_are are =
    contradictions_found b ok _ _ _ (rw c_is at relations) (rw a_is at named_are) (rw a_is at are)

pub names-names-requires : goal.names-names-requires
names-names-requires c =
    rw c.bytes.ensures.bytes (policies_wider 8 16 8 256 _ (omega arith) (omega arith) c.bytes.ensures.passed)

pub relations-related-requires : goal.relations-related-requires
relations-related-requires c =
    let ok = c.part.ensures.accepted in
    rw c.part.ensures.table ((accepted _ ok).contexts, whole_contexts _ ok)

pub of-requires-clause-callable : goal.of-requires-clause-callable
of-requires-clause-callable c = λ i l. let within = rw c.count.ensures.count.0 at l in search rules

pub returns-clause-rows : goal.returns-clause-rows
returns-clause-rows c =
    let a = c.policies-a.ensures in
    let (is, few) = c.count.ensures.count in
    found _ a.accepted a.policies c.part.ensures.table c.relations-related.ensures
    (rw c.bytes.ensures.bytes at c.names-names.ensures)
    (record { row = λ i j l. let row = c.of.ensures.rows i (rw is l) in search rules })
