-- Seniority: the test over chains of bounded length is the chain of H records.
use Prim.Native.Nat.{ℕ, zero, suc, ◌+◌, ◌<◌, ◌≤◌}
use mathlib.Core.Bool.{Bool, true, false, ◌&&◌, ◌||◌, or-true, false≢true}
use mathlib.Core.Path.{◌≡◌, refl, ◌∙◌}
use mathlib.Core.Logic.{◌⊎◌, inl, inr, ⊎_elim, ◌↔◌}
use mathlib.Core.List.{List}
use native.Mathlib.Omega.{arith}
use borrow.Author.Tests.{eqb-true, eq-eqb, ne_eqb, lt-ltb}
use lib.Dec.{eqb}
use Rattle.folds.specs.Below.{any_below}
use Rattle.folds.proofs.Bools.{and_left, and_right, or_either, met_or_not, same_test}
use Rattle.folds.proofs.Tests.{any_found, any_some, any_same, any_each}
use Rattle.reader.specs.Tables.{hierarchy, record_count}
use Rattle.reader.specs.Fields.{senior, junior}
use Rattle.reader.specs.Rules.{hierarchy_record_bad, hierarchy_bad}
use Rattle.reader.proofs.Accepted.{HierarchyFine, hierarchy_fine}
use Rattle.weights.specs.Seniority.{Leads, Chain, one, more, chain_within, senior_to}

-- record i starts a chain from s to j of which `rest` tells the part behind it
abbrev pub starts : (ℕ → Bool) → List ℕ → ℕ → ℕ → ℕ → Bool
starts rest h s j i = eqb (senior h i) s && (eqb (junior h i) j || rest (junior h i))

-- what a record that starts a chain says
started : (rest : ℕ → Bool) (h : List ℕ) (s j i : ℕ) → starts rest h s j i ≡ true →
    (senior h i ≡ s) × ((junior h i ≡ j) ⊎ (rest (junior h i) ≡ true))
started rest h s j i e =
    let k = and_right (eqb (senior h i) s) _ e in
    let to = ⊎_elim (λ q. inl (eqb-true _ _ q)) (λ q. inr q) (or_either (eqb (junior h i) j) _ k) in
    (eqb-true _ _ (and_left _ _ e), to)

-- each test is a chain
within_chain : (k : ℕ) (h : List ℕ) (s j : ℕ) → chain_within k h s j ≡ true → Chain h s j
unfolding chain_within any_below
within_chain zero h s j e = absurd (false≢true e)
within_chain (suc k) h s j e =
    let (i, l, m) = any_some (starts (λ r. chain_within k h r j) h s j) (record_count hierarchy h) e in
    let (from, to) = started (λ r. chain_within k h r j) h s j i m in
    ⊎_elim (λ q. one (record { there = l; from = from; to = q }))
    (λ q. more (record { there = l; from = from; to = refl }) (within_chain k h (junior h i) j q)) to

-- a table H that passed the check passes it with more roles
pub hierarchy_wider : (R : ℕ) (h : List ℕ) → R ≤ 8 → hierarchy_bad R h ≡ false → hierarchy_bad 8 h ≡ false
unfolding hierarchy_bad
hierarchy_wider R h l fine =
    any_each (hierarchy_record_bad 8 h) (record_count hierarchy h)
    (λ i m. let f = hierarchy_fine R 0 h i fine m in
    let d = f.down in
    let k : junior h i < 8 = omega arith in
    rw (lt-ltb _ _ d, lt-ltb _ _ k))

-- a table H that passed the check, with R roles
module _ (R : ℕ) (h : List ℕ) (small : R ≤ 8) (fine : hierarchy_bad R h ≡ false) where
  rises : (i : ℕ) → i < record_count hierarchy h → HierarchyFine R h i
  rises i l = hierarchy_fine R 0 h i fine l

  -- a longer chain finds nothing more, since the roles of a chain rise
  within_more : (k s j : ℕ) → 8 ≤ s + k → chain_within (suc k) h s j ≡ chain_within k h s j
  unfolding chain_within
  within_more zero s j l =
      any_each (starts (λ r. chain_within 0 h r j) h s j) (record_count hierarchy h)
      (λ i m. rw (ne_eqb (senior h i) s (λ q. let f = rises i m in omega arith)))
  within_more (suc k) s j l =
      any_same (starts (λ r. chain_within (suc k) h r j) h s j) (starts (λ r. chain_within k h r j) h s j)
      (record_count hierarchy h)
      (λ i m. ⊎_elim
      (λ e. let q : senior h i ≡ s = eqb-true _ _ e in
      let f = rises i m in
      rw (within_more k (junior h i) j (omega arith)))
      (λ e. rw e) (met_or_not (eqb (senior h i) s)))

  -- s is senior to j by one record, or to a senior of j by one record
  pub senior_step : (s j : ℕ) → senior_to h s j ≡ any_below (record_count hierarchy h)
      (starts (λ r. senior_to h r j) h s j)
  unfolding senior_to chain_within
  senior_step s j =
      any_same (starts (λ r. chain_within 7 h r j) h s j) (starts (λ r. chain_within 8 h r j) h s j)
      (record_count hierarchy h)
      (λ i m. let f = rises i m in rw (within_more 7 (junior h i) j (omega arith)))

  -- the law of seniority: a chain of one or more H records leads from s to j
  pub senior_chain : (s j : ℕ) → (senior_to h s j ≡ true) ↔ Chain h s j
  unfolding senior_to
  senior_chain s j = (within_chain 8 h s j, found s j)
    where
      found : (s j : ℕ) → Chain h s j → senior_to h s j ≡ true
      found s j (one {i = i} l) =
          senior_step s j ∙ any_found (starts (λ r. senior_to h r j) h s j) _ i l.there
          (rw (eq-eqb _ _ l.from, eq-eqb _ _ l.to))
      found s j (more {i = i} l c) =
          senior_step s j ∙ any_found (starts (λ r. senior_to h r j) h s j) _ i l.there
          (rw (eq-eqb _ _ l.from, l.to, found _ j c, or-true))

  -- a senior has the smaller number, and a junior is below R
  pub senior_down : (s j : ℕ) → senior_to h s j ≡ true → (s < j) × (j < R)
  senior_down s j e = down s j ((senior_chain s j).0 e)
    where
      down : (s j : ℕ) → Chain h s j → (s < j) × (j < R)
      down s j (one {i = i} l) =
          let f = rises i l.there in let a = l.from in let b = l.to in (omega arith, omega arith)
      down s j (more {i = i} {m = m} l c) =
          let f = rises i l.there in let a = l.from in let b = l.to in let d = down m j c in (omega arith, d.1)

-- each record of h occurs in k
pub RecordsIn : List ℕ → List ℕ → Type 0
RecordsIn h k = (i : ℕ) → i < record_count hierarchy h → (j : ℕ) × Leads k j (senior h i) (junior h i)

chain_in : (h k : List ℕ) → RecordsIn h k → (s j : ℕ) → Chain h s j → Chain k s j
unfolding RecordsIn
chain_in h k m s j (one {i = i} l) =
    let w = m i l.there in
    one (record { there = w.1.there; from = w.1.from ∙ l.from; to = w.1.to ∙ l.to })
chain_in h k m s j (more {i = i} l c) =
    let w = m i l.there in
    more (record { there = w.1.there; from = w.1.from ∙ l.from; to = w.1.to ∙ l.to }) (chain_in h k m _ j c)

-- repeated records and the order of records change nothing
pub same_records : (R : ℕ) (h k : List ℕ) → R ≤ 8 → hierarchy_bad R h ≡ false → hierarchy_bad R k ≡ false →
    RecordsIn h k → RecordsIn k h → (s j : ℕ) → senior_to h s j ≡ senior_to k s j
same_records R h k small fh fk hk kh s j =
    same_test (senior_to h s j) (senior_to k s j)
    (λ e. (senior_chain R k small fk s j).1 (chain_in h k hk s j ((senior_chain R h small fh s j).0 e)))
    (λ e. (senior_chain R h small fh s j).1 (chain_in k h kh s j ((senior_chain R k small fk s j).0 e)))
