-- The clauses of all permissions asked for.
use Prim.Native.Nat.{ℕ, ◌*◌, ◌/◌, ◌^◌, ◌<◌}
use mathlib.Core.Bool.{cond}
use mathlib.Core.Path.{◌≡◌, ◌∙◌}
use mathlib.Core.List.{List}
use lib.Bits.{bit_or}
use lib.ListN.{length, get_or}
use Rattle.std.specs.List.{fold, range_with_len}
use Rattle.folds.specs.Sets.{in_set}
use Rattle.folds.proofs.Folds.{fold_passing}
use Rattle.folds.proofs.Sets.{set_lt}
use Rattle.reader.specs.Tables.{clauses, record_count}
use Rattle.reader.specs.Fields.{clause_permission}
use Rattle.batch.specs.Asked.{clauses_asked}

-- the clauses of the permissions of a set, gathered by a fold over the table's records
pub asked_all : (k : List ℕ) (asked : ℕ) {all : ℕ}
    → all ≡ fold (λ all i. cond (in_set asked (get_or k (16 * i) 0)) (bit_or all (2 ^ i)) all) 0
    (range_with_len 0 (length k / 16))
    → (all ≡ clauses_asked k asked) × (all < 2 ^ record_count clauses k)
unfolding clauses_asked
asked_all k asked e =
    let is = e ∙ fold_passing (λ i. in_set asked (clause_permission k i)) (length k / 16) in
    (is, rw is (set_lt (λ i. in_set asked (clause_permission k i)) (record_count clauses k)))
