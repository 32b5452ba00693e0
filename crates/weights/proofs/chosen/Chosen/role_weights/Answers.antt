-- A turn is argued of plain values.
use mathlib.Core.Path.{ap₂}
use native.Mathlib.Nat.{add-zero, add_assoc}
use borrow.Rule.Slice.PartMut.{mid_of}
use Rattle.std.proofs.Common.{◌≡◌, ℕ, ◌+◌, ◌*◌, ◌-◌, ◌<◌, ◌≤◌, List, length, get_or, drop, ap, refl, ◌∙◌, arith}
use Rattle.std.proofs.lemmas.List.{get_or-take, get_or-drop}
use Rattle.folds.specs.Below.{sum_below}
use Rattle.folds.specs.Sets.{in_set}
use Rattle.folds.proofs.Numbers.{sum_none, sum_more, sum_le}
use Rattle.weights.specs.Setting.{Light, given, HandedOn, Summed}
use Rattle.weights.proofs.Weigh.{given_le, weigh}
use Rattle.weights.proofs.chosen.Chosen.role_weights.Goals as goal

-- what a role's junior j gives it
abbrev share : List ℕ → List ℕ → ℕ → ℕ → ℕ → ℕ
share inhs juniors p r j = given (get_or juniors r 0) j (get_or inhs (8 * p + j) 0)

-- before the first turn
first : {owns inhs juniors w : List ℕ} {p : ℕ} → length w ≡ 8 →
    ((r : ℕ) → r < 8 → get_or w r 0 ≡ get_or owns (8 * p + r) 0) → Summed owns inhs juniors p 0 w
first {owns} {inhs} {juniors} {w} {p} size own =
    record { size = size; role = λ r l. rw (sum_none (share inhs juniors p r), add-zero) (own r l) }

-- one turn, of plain values: junior j hands on x
module _ {owns inhs juniors w : List ℕ} {p j x : ℕ} (sum : Summed owns inhs juniors p j w) (l : j < 8) (small : p < 16)
    (is : x ≡ get_or inhs (8 * p + j) 0) where
  -- no weight gets too large
  room : Light owns → Light inhs → (r : ℕ) → r < 8 → get_or w r 0 + x ≤ 255
  room own_light inh_light r m =
      let o = own_light (8 * p + r) (omega arith) in
      let y = inh_light (8 * p + j) (omega arith) in
      let shares = sum_le (share inhs juniors p r) 5 j
      (λ k n. given_le (in_set (get_or juniors r 0) k) (inh_light (8 * p + k) (omega arith))) in
      rw (sum.role r m, is) (omega arith)

  again : {v : List ℕ} → HandedOn juniors j x 8 w v → Summed owns inhs juniors p (j + 1) v
  again {v} handed = record { size = handed.size; role = more }
    where
      more : (r : ℕ) → r < 8 → get_or v r 0 ≡ get_or owns (8 * p + r) 0 + sum_below (j + 1) (share inhs juniors p r)
      more r m =
          handed.done r m
          ∙ ap₂ (λ (a b : ℕ). a + b) (sum.role r m) (ap (λ (y : ℕ). given (get_or juniors r 0) j y) is)
          ∙ rw (sum_more (share inhs juniors p r) j)
          (add_assoc (get_or owns (8 * p + r) 0) (sum_below j (share inhs juniors p r)) (share inhs juniors p r j))

-- what stands at a place of the permission's part
at_place : (inhs : List ℕ) (p : ℕ) {at j : ℕ} → at ≡ 8 * p + 0 → j < 8 →
    get_or (mid_of at (at + 8 - at) inhs) j 0 ≡ get_or inhs (8 * p + j) 0
at_place inhs p {at} {j} e l =
    get_or-take (at + 8 - at) (drop at inhs) j 0 (omega arith) ∙ get_or-drop at inhs j 0 ∙ rw (e, add-zero) refl

pub loop-j-init : goal.loop-j-init
loop-j-init c =
    let (size, own) = c.own_weights-w.ensures in
    first size own

pub hand_on-requires : goal.hand_on-requires
hand_on-requires c =
    let (own_light, inh_light) = c.args.self.now.light in
    let sum = c.loop-j.invariant in
    let l : c.loop-j.j < 8 = omega arith in
    let is = at_place c.args.self.now.inh c.args.permission c.place_of-at.ensures.0 l in
    (sum.size, l, room sum l c.requires is own_light inh_light)

pub loop-j-preserved : goal.loop-j-preserved
loop-j-preserved c =
    let l : c.loop-j.j < 8 = omega arith in
    again c.loop-j.invariant l c.requires
    (at_place c.args.self.now.inh c.args.permission c.place_of-at.ensures.0 l) c.hand_on.ensures

pub returns : goal.returns
returns c rules b at ok chosen below =
    let end : c.loop-j.j ≡ 8 = omega arith in
    weigh rules b at ok c.args.permission c.requires chosen below (rw end at c.loop-j.invariant)
