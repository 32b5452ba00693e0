-- A permission's clauses, gathered by a fold over the table's records.
use Prim.Native.Nat.{ℕ, ◌*◌, ◌/◌, ◌^◌, ◌<◌}
use mathlib.Core.Bool.{cond}
use mathlib.Core.Path.{◌≡◌, ◌∙◌}
use mathlib.Core.List.{List}
use lib.Bits.{bit_or}
use lib.Dec.{eqb}
use lib.ListN.{length, get_or}
use Rattle.std.specs.List.{fold, range_with_len}
use Rattle.folds.proofs.Folds.{fold_passing}
use Rattle.folds.proofs.Sets.{set_lt}
use Rattle.reader.specs.Tables.{clauses, record_count}
use Rattle.reader.specs.Fields.{clause_permission}
use Rattle.masks.specs.Clauses.{clauses_of}

pub own_all : (k : List ℕ) (p : ℕ) {own : ℕ}
    → own
    ≡ fold (λ own i. cond (eqb (get_or k (16 * i) 0) p) (bit_or own (2 ^ i)) own) 0 (range_with_len 0 (length k / 16))
    → (own ≡ clauses_of k p) × (own < 2 ^ record_count clauses k)
unfolding clauses_of
own_all k p e =
    let is = e ∙ fold_passing (λ i. eqb (clause_permission k i) p) (length k / 16) in
    (is, rw is (set_lt (λ i. eqb (clause_permission k i) p) (record_count clauses k)))
