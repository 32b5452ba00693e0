-- What a loop of this layer knows after one turn more.
use Prim.Native.Nat.{ℕ, ◌^◌, ◌<◌, ◌≤◌}
use mathlib.Core.Bool.{Bool, false, ◌||◌}
use mathlib.Core.Path.{◌≡◌, sym, ap, ◌∙◌}
use mathlib.Core.Logic.{⊎_elim}
use mathlib.Core.List.{List}
use native.Mathlib.Omega.{arith}
use borrow.Author.Tests.{eqb-true, eqb-false}
use lib.Bits.{bit_or}
use lib.Dec.{eqb}
use lib.ListN.{length, get_or, set}
use lib.Seq.{get_or-set_same, get_or-set_other}
use Rattle.folds.specs.Below.{any_below}
use Rattle.folds.specs.Sets.{in_set}
use Rattle.folds.proofs.Bools.{met_or_not, eqb_sym}
use Rattle.folds.proofs.Tests.{any_same}
use Rattle.folds.proofs.Sets.{in_or, in_one}
use Rattle.reader.specs.Tables.{hierarchy, record_count}
use Rattle.reader.specs.Fields.{senior, junior}
use Rattle.reader.specs.Rules.{hierarchy_bad}
use Rattle.reader.proofs.Accepted.{hierarchy_fine}
use Rattle.weights.specs.Seniority.{senior_to}
use Rattle.weights.specs.Setting.{next_junior}
use Rattle.weights.proofs.Chains.{starts, senior_step}

-- role k and a set of roles
pub in_with : (k y j : ℕ) → in_set (bit_or (2 ^ k) y) j ≡ (eqb k j || in_set y j)
in_with k y j = in_or (2 ^ k) y j ∙ ap (λ (b : Bool). b || in_set y j) (in_one k j ∙ eqb_sym j k)

-- the juniors of s, from those of the roles with higher numbers
pub juniors_next : (h known : List ℕ) (s : ℕ) → hierarchy_bad 8 h ≡ false →
    ((r j : ℕ) → s < r → r < 8 → in_set (get_or known r 0) j ≡ senior_to h r j) →
    (j : ℕ) → any_below (record_count hierarchy h) (next_junior h known s j) ≡ senior_to h s j
juniors_next h known s fine above j =
    any_same (next_junior h known s j) (starts (λ r. senior_to h r j) h s j) (record_count hierarchy h)
    (λ i m. ⊎_elim
    (λ e. let q : senior h i ≡ s = eqb-true _ _ e in
    let f = hierarchy_fine 8 0 h i fine m in
    rw (above (junior h i) j (omega arith) f.role))
    (λ e. rw e) (met_or_not (eqb (senior h i) s)))
    ∙ sym (senior_step 8 h (omega arith) fine s j)

-- the juniors of k are stored beside those of the roles with higher numbers
pub juniors_more : (h known : List ℕ) (k x : ℕ) → k < 8 → length known ≡ 8 → hierarchy_bad 8 h ≡ false →
    ((s j : ℕ) → k < s → s < 8 → in_set (get_or known s 0) j ≡ senior_to h s j) →
    ((j : ℕ) → in_set x j ≡ any_below (record_count hierarchy h) (next_junior h known k j)) →
    (s j : ℕ) → k ≤ s → s < 8 → in_set (get_or (set known k x) s 0) j ≡ senior_to h s j
juniors_more h known k x l n fine inv new s j at_least below =
    ⊎_elim
    (λ e. let q : s ≡ k = eqb-true _ _ e in
    rw (q, get_or-set_same known k x 0 (omega arith)) (new j ∙ juniors_next h known k fine inv j))
    (λ e. let d : s ≡ k → ⊥ = eqb-false s k e in
    rw (get_or-set_other known k s x 0 d) (inv s j (omega arith) below))
    (met_or_not (eqb s k))
