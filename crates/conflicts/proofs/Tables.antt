-- What the conflict list needs to know of the tables of an accepted base.
use Prim.Native.Nat.{ℕ, ◌/◌, ◌<◌, ◌≤◌}
use mathlib.Core.Bool.{Bool, true, false, cond}
use mathlib.Core.Path.{◌≡◌}
use mathlib.Core.List.{List}
use native.Mathlib.Omega.{arith}
use native.Mathlib.Nat.{lt_of_lt_of_le}
use borrow.Author.Tests.{lt-ltb, le-ltb}
use Rattle.folds.proofs.Tests.{any_each}
use lib.ListN.{length}
use lib.Dec.{eqb, lit<}
use Rattle.reader.specs.Tables.{policies, exclusions, record_count, table_of}
use Rattle.reader.specs.Rules.{exclusion_bad, exclusions_bad, refusal_of}
use Rattle.reader.proofs.Frame.{roles_range, permissions_le}
use Rattle.reader.proofs.Accepted.{accepted, exclusion_fine, records_le}
use Rattle.reader.specs.Fields.{exclusion_kind, exclusion_first, exclusion_second}

-- at most 64 policies and exclusions: the rows and their bits
module _ (b : List ℕ) (ok : refusal_of b ≡ 0) {t : List ℕ} where
  pub few_policies : t ≡ table_of b policies → length t / 8 ≤ 64
  few_policies e = rw e (records_le b ok policies (lit< tt))

  pub few_exclusions : t ≡ table_of b exclusions → length t / 3 ≤ 64
  few_exclusions e = rw e (let n = records_le b ok exclusions (lit< tt) in omega arith)

-- a table X that passed the check passes it with more roles and permissions
exclusions_wider : (R P S Q : ℕ) (x : List ℕ) → R ≤ S → P ≤ Q → exclusions_bad R P x ≡ false →
    exclusions_bad S Q x ≡ false
unfolding exclusions_bad exclusion_bad
exclusions_wider R P S Q x r p fine =
    any_each (exclusion_bad S Q x) (record_count exclusions x)
    (λ i m. let f = exclusion_fine R P x i fine m in
    let there = lt_of_lt_of_le f.there (more (eqb (exclusion_kind x i) 0)) in
    rw (le-ltb _ _ f.kind_le, lt-ltb _ _ f.rising, lt-ltb _ _ there))
  where
    more : (t : Bool) → cond t R P ≤ cond t S Q
    more true = r
    more false = p

-- and that of an accepted base passes it with 8 and 16
pub exclusions_small : (b : List ℕ) → refusal_of b ≡ 0 → exclusions_bad 8 16 (table_of b exclusions) ≡ false
exclusions_small b ok =
    let f = accepted b ok in
    exclusions_wider _ _ 8 16 _ (roles_range b f.frame).1 (permissions_le b f.frame) f.exclusions

-- then the roles of an exclusion are below 8, and its permissions below 16
pub numbers_small : (x : List ℕ) (e : ℕ) → exclusions_bad 8 16 x ≡ false → e < record_count exclusions x →
    {roles : Bool} → eqb (exclusion_kind x e) 0 ≡ roles →
    (exclusion_first x e < cond roles 8 16) × (exclusion_second x e < cond roles 8 16)
numbers_small x e fine l {roles} is =
    let f = exclusion_fine 8 16 x e fine l in
    let second : exclusion_second x e < cond roles 8 16 = rw is at f.there in
    let h = f.rising in
    (omega arith, second)
