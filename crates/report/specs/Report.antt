-- The release report by a decision: 13 bytes a permission, the answer, and every byte of the buffer.
use Rattle.std.specs.Prelude.{ℕ, ◌-◌, ◌*◌, ◌<◌, ◌≤◌, not, cond, ◌≡◌, List, ◌∷◌, ◌++◌, length, drop, replicate, ltb, eqb}
use Rattle.folds.specs.Below.{count_below, join_below}
use Rattle.reader.specs.declared.Answer.{Answer}
use Rattle.reader.specs.Answers.{answered}
use Rattle.reader.specs.Tables.{permission_count}
use Rattle.reader.specs.Rules.{refusal_of}
use Rattle.weights.specs.declared.Context.{Context}
use Rattle.weights.specs.Contexts.{out_of_range}
use Rattle.resolution.specs.Resolution.{lent}
use Rattle.decision.specs.Decision.{decision_by, decision_of}
use Rattle.decision.specs.Groups.{entry_user}
use Rattle.report.specs.Smallest.{Deciding, smallest_by}

-- 19 of a buffer of n bytes, or 0
abbrev pub room : List ℕ → ℕ → ℕ
room b n = cond (ltb n (13 * permission_count b)) 19 0

-- 11 of the context and 19, or 0
abbrev pub fitting : List ℕ → Context → ℕ → ℕ
fitting b at n = cond (out_of_range at) 11 (room b n)

-- the first of refusals 1 to 9, 11 and 19 that applies, for a buffer of n bytes, or 0
unfoldable pub report_refusal : List ℕ → Context → ℕ → ℕ
report_refusal b at n = cond (not (eqb (refusal_of b) 0)) (refusal_of b) (fitting b at n)

-- the same with a list lent: 1 to 9, 22 of the list, 11 and 19
unfoldable pub report_refusal_lent : List ℕ → List ℕ → Context → ℕ → ℕ
report_refusal_lent list b at n = lent list b (fitting b at n)

-- how many of P permissions have a number of approvers above 0
unfoldable pub releasable : Deciding → ℕ → ℕ
releasable decision P = count_below P (λ p. ltb 0 (smallest_by decision p))

-- the answer: a refusal carries 0
unfoldable pub report_answer : Deciding → ℕ → ℕ → Answer
unfolding answered
report_answer decision P refusal = answered refusal (releasable decision P)

-- that of the report without a list, for a buffer of n bytes, and that of the report with one
abbrev pub answer_of : List ℕ → Context → ℕ → Answer
answer_of b at n = report_answer (decision_of b at) (permission_count b) (report_refusal b at n)

abbrev pub answer_lent : List ℕ → List ℕ → Context → ℕ → Answer
answer_lent list b at n = report_answer (decision_by list b at) (permission_count b) (report_refusal_lent list b at n)

-- the bytes g are a group to be shown for permission p: a smallest one, whose entries from number `from` on stand by
-- strictly rising user; empty where none is granted
pub record ShownFrom (from : ℕ) (decision : Deciding) (p : ℕ) (g : List ℕ) : Type 0 where
  pub number : length g ≡ 2 * smallest_by decision p
  pub granted : 0 < smallest_by decision p → decision p g ≡ 0
  pub rising : (i j : ℕ) → from ≤ i → i < j → j < smallest_by decision p → entry_user g i < entry_user g j

-- where anybody may stand first: by strictly rising user
abbrev pub ShownFor : Deciding → ℕ → List ℕ → Type 0
ShownFor decision p g = ShownFrom 0 decision p g

-- a permission's 13 bytes: the number k of approvers, k entries, and 255 in every byte left
abbrev pub part_bytes : ℕ → List ℕ → List ℕ
part_bytes k g = k ∷ (g ++ replicate (12 - 2 * k) 255)

-- the buffer afterwards, with the group chosen for each of P permissions: the parts in order, and the bytes behind them
-- as they were; no refusal writes
unfoldable pub report_bytes : Deciding → ℕ → ℕ → (ℕ → List ℕ) → List ℕ → List ℕ
report_bytes decision P refusal chosen out =
    cond (eqb refusal 0) (join_below P (λ p. part_bytes (smallest_by decision p) (chosen p)) ++ drop (13 * P) out) out

-- the promise of a report by a decision on P permissions, where `refusal` is the one that applies or 0: the answer r,
-- and `after` the buffer that held `out`; the choice of group is free, but that its entries from number `from` on stand
-- by rising user
pub record Reported (from : ℕ) (decision : Deciding) (P refusal : ℕ) (out after : List ℕ) (r : Answer) : Type 0 where
  pub answer : r ≡ report_answer decision P refusal
  pub chosen : ℕ → List ℕ
  pub shown : refusal ≡ 0 → (p : ℕ) → p < P → ShownFrom from decision p (chosen p)
  pub bytes : after ≡ report_bytes decision P refusal chosen out

-- the promise of the report without a list
abbrev pub ReportedOf : List ℕ → Context → List ℕ → List ℕ → Answer → Type 0
ReportedOf b at out after r =
    Reported 0 (decision_of b at) (permission_count b) (report_refusal b at (length out)) out after r

-- and of the report with a list lent
abbrev pub ReportedLent : List ℕ → List ℕ → Context → List ℕ → List ℕ → Answer → Type 0
ReportedLent list b at out after r =
    Reported 0 (decision_by list b at) (permission_count b) (report_refusal_lent list b at (length out)) out after r
