-- Queries of 14 bytes: permission, entry count, and six entries of 2 bytes.
use Rattle.std.specs.Prelude.{ℕ, ◌*◌, ◌/◌, Bool, ◌||◌, not, cond, List, length, get_or, take, drop, ltb, eqb}
use Rattle.reader.specs.Tables.{permission_count}
use Rattle.weights.specs.declared.Context.{Context}
use Rattle.decision.specs.Decision.{decision_of}

-- the number of whole queries
abbrev pub query_count : List ℕ → ℕ
query_count queries = length queries / 14

-- the bytes of query i
abbrev pub query : List ℕ → ℕ → List ℕ
query queries i = take 14 (drop (14 * i) queries)

abbrev pub query_permission : List ℕ → ℕ
query_permission q = get_or q 0 0

-- the entry count n
abbrev pub entry_count_of : List ℕ → ℕ
entry_count_of q = get_or q 1 0

-- the first n entries' bytes
abbrev pub query_group : List ℕ → List ℕ
query_group q = take (2 * entry_count_of q) (drop 2 q)

-- an entry count of 0 or above 6
abbrev pub count_refused : ℕ → Bool
count_refused n = eqb n 0 || ltb 6 n

-- the answer to a query: that of the first decision for its group; a refused entry count answers 12, unless 10 applies
unfoldable pub answer_to : List ℕ → Context → List ℕ → ℕ
answer_to b at q =
    cond (count_refused (entry_count_of q))
    (cond (not (ltb (query_permission q) (permission_count b))) 10 12)
    (decision_of b at (query_permission q) (query_group q))
