-- The context numbers that the policies name, each in its slot, and which of them are related.
use Rattle.std.specs.Prelude.{ℕ, ◌<◌, Bool, ◌&&◌, cond, ◌≡◌, List, get_or, leb, eqb}
use Rattle.folds.specs.Below.{any_below}
use Rattle.folds.specs.Sets.{in_set}
use Rattle.reader.specs.Tables.{policies, record_count}
use Rattle.reader.specs.Fields.{policy_context}
use Rattle.related.specs.Related.{related}

-- a place for each context number: 0 to 15, and 16 for 255
unfoldable pub slot_of : ℕ → ℕ
slot_of n = cond (eqb n 255) 16 n

unfoldable pub number_at : ℕ → ℕ
number_at s = cond (eqb s 16) 255 s

-- slot s is that of a context number which the policies name
unfoldable pub named : List ℕ → ℕ → Bool
named a s = any_below (record_count policies a) (λ i. eqb (slot_of (policy_context a i)) s)

-- slots s ≤ t are named, and their numbers are related
abbrev pub related_slots : List ℕ → ℕ → ℕ → ℕ → Bool
related_slots c names s t = (in_set names s && in_set names t) && (leb s t && related c (number_at s) (number_at t))

-- the rows of related slots
pub record Relations (c : List ℕ) (names : ℕ) (rows : List ℕ) : Type 0 where
  pub row : (s t : ℕ) → s < 17 → t < 17 → in_set (get_or rows s 0) t ≡ related_slots c names s t
