-- Seniority: role s is senior to j if a chain of one or more H records leads from s to j.
use Rattle.std.specs.Prelude.{ℕ, zero, suc, ◌<◌, Bool, false, ◌&&◌, ◌||◌, ◌≡◌, List, eqb}
use Rattle.folds.specs.Below.{any_below}
use Rattle.reader.specs.Tables.{hierarchy, record_count}
use Rattle.reader.specs.Fields.{senior, junior}

-- H record i leads from s to j
pub record Leads (h : List ℕ) (i s j : ℕ) : Type 0 where
  pub there : i < record_count hierarchy h
  pub from : senior h i ≡ s
  pub to : junior h i ≡ j

-- a chain of one or more records of the table H leads from s to j
pub data Chain (h : List ℕ) : ℕ → ℕ → Type 0 where
  one : {i s j : ℕ} → Leads h i s j → Chain h s j
  more : {i s m j : ℕ} → Leads h i s m → Chain h m j → Chain h s j

-- the same as a test, of chains of at most k records
unfoldable pub chain_within : ℕ → List ℕ → ℕ → ℕ → Bool
unfolding any_below
chain_within zero h s j = false
chain_within (suc k) h s j =
    any_below (record_count hierarchy h)
    (λ i. eqb (senior h i) s && (eqb (junior h i) j || chain_within k h (junior h i) j))

-- role s is senior to role j. In an accepted base the roles of a chain rise, so it has at most 7 records, and 8 are
-- enough; the law `senior_chain` says that this test is the chain
unfoldable pub senior_to : List ℕ → ℕ → ℕ → Bool
unfolding chain_within
senior_to h s j = chain_within 8 h s j
