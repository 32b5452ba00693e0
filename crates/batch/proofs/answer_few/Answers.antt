-- `answer_few` meets its contract: each turn stores its query's answer behind those before it.
use Rattle.std.proofs.Common.{ℕ, List, set, arith}
use mathlib.Core.Path.{ap, ◌∙◌}
use Rattle.batch.specs.Queries.{query, answer_to}
use Rattle.batch.proofs.Answering.{lent, written_none, written_more}
use Rattle.batch.proofs.answer_few.Goals as goal

pub loop-i-init : goal.loop-i-init
loop-i-init c = written_none (λ i. answer_to c.args.base.now c.args.s.at (query c.args.queries.now i)) _

pub loop-i-preserved : goal.loop-i-preserved
loop-i-preserved c =
    let b = c.args.base.now in
    let at = c.args.s.at in
    let queries = c.args.queries.now in
    let i = c.loop-i.i in
    let out = c.args.answers.now in
    let is = c.number.ensures ∙ c.decide_alone.ensures ∙ ap (answer_to b at) (lent queries i) in
    let f : ℕ → ℕ = λ k. answer_to b at (query queries k) in
    ap (λ (xs : List ℕ). set xs i c.number.result) c.loop-i.invariant ∙ written_more f i out (omega arith) is
