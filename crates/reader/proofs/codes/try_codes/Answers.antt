-- `try_codes` meets its contract: before role r is tried, as many codes were, the rest is what they left of the
-- parameter, and it wasn't 1 before. A turn is argued of plain values.
use Rattle.std.proofs.Common.{ℕ, ◌+◌, ◌/◌, ◌<◌, ◌≤◌, true, false, Bool, cond, ◌≡◌, refl, sym, ap, ◌∙◌}
use Rattle.std.proofs.Common.{eqb, arith}
use borrow.Author.Tests.{eq-eqb, ne_eqb}
use Rattle.folds.proofs.Tests.{any_at}
use Rattle.folds.proofs.Searches.{none_at_first, none_further}
use Rattle.reader.specs.Codes.{code_of, code_divides, parameter_ok, codes_tried, parameter_answer}
use Rattle.reader.proofs.Parameter.{rest_of, rest_none, rest_taken, rest_left, rest_one}
use Rattle.reader.proofs.Trying.{wider, tried_refused, tried_least, answer_few}
use Rattle.reader.proofs.codes.try_codes.Invariants.{Turn}
use Rattle.reader.proofs.codes.try_codes.Goals as goal
use Rattle.reader.proofs.codes.try_codes.Goals.{then-code_divides, else-code_divides}

first : (x roles : ℕ) → Turn x roles x 0 0
first x roles = record { counted = refl; upto = sym (rest_none x); yet = none_at_first }

-- the answer that carries how many codes were tried
told : (x : ℕ) {roles count : ℕ} {ok : Bool} → roles ≤ 8 → (ok ≡ parameter_ok roles x) × (count ≡ codes_tried roles x) →
    record { refusal = cond ok 0 5; count = count } ≡ parameter_answer roles x
told x {roles} few (ok_is, count_is) = rw (answer_few roles x few, ok_is, count_is)

-- a turn, of plain values
module _ {x roles rest count r : ℕ} (few : roles ≤ 8) (turn : Turn x roles rest count r) where
  -- the rest is 1 exactly where the parameter is a product of codes of roles below r
  test : eqb rest 1 ≡ parameter_ok r x
  test =
      let within = turn.yet.within in
      ap (λ (y : ℕ). eqb y 1) turn.upto ∙ rest_one r x (omega arith)

  -- it is 1 for the first time
  ended : rest ≡ 1 → record { refusal = 0; count = count } ≡ parameter_answer roles x
  ended one =
      let within = turn.yet.within in
      let ok : parameter_ok r x ≡ true = sym test ∙ eq-eqb _ _ one in
      let before : (k : ℕ) → k < r → parameter_ok k x ≡ false = any_at (λ n. parameter_ok n x) r turn.yet.none in
      told x {ok = true} few
      (sym (wider r roles x within few ok), turn.counted ∙ sym (tried_least roles x r few within ok before))

  -- all codes were tried, and it never was
  spent : roles ≤ r → (rest ≡ 1 → ⊥) → record { refusal = 5; count = count } ≡ parameter_answer roles x
  spent last other =
      let within = turn.yet.within in
      let same : r ≡ roles = omega arith in
      let bad : parameter_ok roles x ≡ false = rw same at (sym test ∙ ne_eqb _ _ other) in
      told x {ok = false} few (sym bad, turn.counted ∙ (same ∙ sym (tried_refused roles x few bad)))

  -- one code more is tried
  module _ (low : r < roles) (other : rest ≡ 1 → ⊥) where
    further : {now : ℕ} → now ≡ rest_of (r + 1) x → Turn x roles now (count + 1) (r + 1)
    further e =
        record {
          counted = ap (λ (n : ℕ). n + 1) turn.counted;
          upto = e;
          yet = none_further turn.yet low (sym test ∙ ne_eqb _ _ other);
        }

    divided : {now : ℕ} → code_divides r rest ≡ true → now ≡ rest / code_of r → Turn x roles now (count + 1) (r + 1)
    divided h e =
        let same = turn.upto in
        further (e ∙ (ap (λ (y : ℕ). y / code_of r) same ∙ sym (rest_taken r x (rw same at h))))

    kept : {now : ℕ} → code_divides r rest ≡ false → now ≡ rest → Turn x roles now (count + 1) (r + 1)
    kept h e = let same = turn.upto in further (e ∙ (same ∙ sym (rest_left r x (rw same at h))))

pub loop-r-init : goal.loop-r-init
loop-r-init c = first c.args.x c.args.roles

pub returns-then-rest-eq1 : goal.returns-then-rest-eq1
returns-then-rest-eq1 c = ended c.requires c.loop-r.invariant c.if-rest-eq1.true

pub overflow_add-count : goal.overflow_add-count
overflow_add-count c = let counted = c.loop-r.invariant.counted in omega arith

pub loop-r-preserved : goal.loop-r-preserved
loop-r-preserved c =
    let few = c.requires in
    let l = c.loop-r in
    let low : l.r < c.args.roles = omega arith in
    let left = c.if-rest-eq1.false in
    elim c.if-code_divides.branch [
      | then-code_divides w ↦ divided few l.invariant low left
          (sym w.if-code_divides.ensures) (w.rest-is ∙ w.quotient-rest.ensures)
      | else-code_divides w ↦ kept few l.invariant low left (sym w.if-code_divides.ensures) w.rest-is
    ]

pub returns-then-rest-ne1 : goal.returns-then-rest-ne1
returns-then-rest-ne1 c = spent c.requires c.loop-r.invariant (omega arith) c.if-rest-ne1.true

pub returns : goal.returns
returns c = ended c.requires c.loop-r.invariant c.if-rest-ne1.false
