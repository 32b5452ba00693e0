-- `overlaps` meets its contract: the rows by the sets worked out are those of the rules.
use Rattle.std.proofs.Common.{ℕ, ◌≡◌, ◌/◌, List, length, rules}
use Rattle.reader.specs.Tables.{hierarchy, policies, exclusions, table_of}
use Rattle.reader.specs.Rules.{refusal_of}
use Rattle.conflicts.specs.Rows.{Covers, Excluded, overlap_by, Rows, Overlaps}
use Rattle.conflicts.proofs.Tables.{exclusions_small}
use Rattle.conflicts.proofs.Found.{overlaps_found}
use Rattle.conflicts.proofs.rows.overlaps.Goals as goal

-- the rows of tables read are those of the base
found : (b : List ℕ) {a x covered apart rows : List ℕ} → refusal_of b ≡ 0 →
    a ≡ table_of b policies → x ≡ table_of b exclusions → Covers (table_of b hierarchy) a covered → Excluded x apart →
    Rows (length a / 8) (length a / 8) (overlap_by apart covered a) rows → Overlaps b rows
found b ok a_is x_is covers excluded are =
    overlaps_found b ok _ _ _ (rw a_is at covers) (rw x_is at excluded) (rw a_is at are)

pub excluded_sets-apart-requires : goal.excluded_sets-apart-requires
excluded_sets-apart-requires c = rw c.part.ensures.table (exclusions_small _ c.part.ensures.accepted)

pub of-requires-clause-callable : goal.of-requires-clause-callable
of-requires-clause-callable c = λ i l. let within = rw c.count.ensures.count.0 at l in search rules

pub returns-clause-rows : goal.returns-clause-rows
returns-clause-rows c =
    let a = c.policies-a.ensures in
    let (is, few) = c.count.ensures.count in
    found _ a.accepted a.policies c.part.ensures.table
    (c.cover_sets-covered.ensures _ c.requires)
    c.excluded_sets-apart.ensures (record { row = λ i j l. let row = c.of.ensures.rows i (rw is l) in search rules })
