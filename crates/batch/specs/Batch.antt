-- The batch: the refusal of the call, and every byte of the answers' buffer.
use Rattle.std.specs.Prelude.{ℕ, ◌/◌, ◌%◌, Bool, ◌||◌, not, cond, List, [], ◌∷◌, ◌++◌, length, drop, ltb, eqb}
use Rattle.folds.specs.Below.{join_below}
use Rattle.reader.specs.Rules.{refusal_of}
use Rattle.weights.specs.declared.Context.{Context}
use Rattle.weights.specs.Contexts.{out_of_range}
use Rattle.batch.specs.Queries.{query_count, query, answer_to}

-- refusal 28 of m bytes of queries and a buffer of n bytes: they aren't whole queries, the queries are more than 1,024,
-- or the buffer is shorter than their number
unfoldable pub queries_refused : ℕ → ℕ → Bool
queries_refused m n = not (eqb (m % 14) 0) || (ltb 1024 (m / 14) || ltb n (m / 14))

-- 11 of the context and 28, or 0
abbrev pub fitting : Context → ℕ → ℕ → ℕ
fitting at m n = cond (out_of_range at) 11 (cond (queries_refused m n) 28 0)

-- the first of refusals 1 to 9, 11 and 28 that applies, for m bytes of queries and a buffer of n bytes, or 0
unfoldable pub batch_refusal : List ℕ → Context → ℕ → ℕ → ℕ
batch_refusal b at m n = cond (not (eqb (refusal_of b) 0)) (refusal_of b) (fitting at m n)

-- the answers to the first n queries, a byte each, in order
abbrev pub answers_below : ℕ → List ℕ → Context → List ℕ → List ℕ
answers_below n b at queries = join_below n (λ i. answer_to b at (query queries i) ∷ [])

-- the buffer that held `out` with the answers to all: the bytes behind them as they were
abbrev pub answered_all : List ℕ → Context → List ℕ → List ℕ → List ℕ
answered_all b at queries out =
    answers_below (query_count queries) b at queries ++ drop (query_count queries) out

-- the buffer afterwards; no refusal writes
unfoldable pub batch_bytes : List ℕ → Context → List ℕ → List ℕ → List ℕ
batch_bytes b at queries out =
    cond (eqb (batch_refusal b at (length queries) (length out)) 0) (answered_all b at queries out) out
