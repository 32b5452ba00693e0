-- The weights of all roles: what the pass over A and the juniors' sets give is the paper's weight; its bounds.
use Prim.Native.Nat.{ℕ, zero, suc, ◌+◌, ◌*◌, ◌/◌, ◌%◌, ◌<◌, ◌≤◌}
use mathlib.Core.Bool.{Bool, true, false, cond}
use mathlib.Core.Path.{◌≡◌, ap, ap₂, ◌∙◌}
use mathlib.Core.Logic.{⊎_elim, ◌↔◌}
use mathlib.Core.List.{List}
use native.Mathlib.Omega.{arith}
use native.Mathlib.Nat.{lt_irrefl, not-suc-le-zero, add-zero}
use borrow.Author.Tests.{ne_eqb}
use lib.Dec.{eqb}
use lib.ListN.{get_or}
use Rattle.folds.specs.Below.{sum_below}
use Rattle.folds.specs.Sets.{in_set}
use Rattle.folds.proofs.Bools.{met_or_not}
use Rattle.folds.proofs.Numbers.{sum_same, sum_tail, sum_first, sum_le, sum_none, sum_zero, sum_pick}
use Rattle.reader.specs.Tables.{hierarchy, contexts, policies, role_count, table_of, record_count}
use Rattle.reader.specs.Fields.{policy_role, policy_context}
use Rattle.reader.specs.Rules.{policies_bad, refusal_of}
use Rattle.reader.proofs.Frame.{roles_range}
use Rattle.reader.proofs.Accepted.{accepted, policy_fine, policies_small}
use Rattle.weights.specs.declared.Context.{Context}
use Rattle.weights.specs.declared.Fixed.{Fixed}
use Rattle.weights.specs.Contexts.{context_holds}
use Rattle.weights.specs.Seniority.{Chain, senior_to}
use Rattle.weights.specs.Weights.{chosen_weight, any_type, type_one, own, inh, share, weight}
use Rattle.weights.specs.Setting.{Juniors, FixedBy, in_force_by, Placed, AreChosen, Light, ChosenBy, AreWeights}
use Rattle.weights.specs.Setting.{given, Summed}
use Rattle.weights.proofs.Chains.{senior_down, senior_chain}
use Rattle.weights.proofs.Choice.{chosen_same, chosen_le, chosen_zero}

-- a weight that is given or not is at most 5 where it is
pub given_le : (t : Bool) {x : ℕ} → x ≤ 5 → cond t x 0 ≤ 5
given_le true h = h
given_le false h = omega arith

module _ (b : List ℕ) (ok : refusal_of b ≡ 0) where
  small : role_count b ≤ 8
  small = (roles_range b (accepted b ok).frame).1

  -- no policy that counts weighs more than 5
  pub chosen_five : (rules : List ℕ) (in_force f : ℕ → Bool) (p r : ℕ) →
      chosen_weight rules in_force f (table_of b policies) (record_count policies (table_of b policies)) r p ≤ 5
  chosen_five rules in_force f p r =
      chosen_le rules in_force f (table_of b policies) r p 5 _
      (λ i l. (policy_fine 8 16 (table_of b policies) i (policies_small b ok) l).weight_le)

  -- there is no policy of a role at R or above
  pub chosen_high : (rules : List ℕ) (in_force f : ℕ → Bool) (p r : ℕ) → role_count b ≤ r →
      chosen_weight rules in_force f (table_of b policies) (record_count policies (table_of b policies)) r p ≡ 0
  chosen_high rules in_force f p r h =
      chosen_zero rules in_force f (table_of b policies) r p _
      (λ i l. let g = (policy_fine _ _ (table_of b policies) i (accepted b ok).policies l).role in
      rw (ne_eqb (policy_role (table_of b policies) i) r (λ q. omega arith)))

  module _ (rules : List ℕ) (at : Context) (p : ℕ) where
    pub own_le : (r : ℕ) → own rules b at r p ≤ 5
    unfolding own
    own_le r = chosen_five rules (context_holds at (table_of b contexts)) any_type p r

    pub inh_le : (r : ℕ) → inh rules b at r p ≤ 5
    unfolding inh
    inh_le r = chosen_five rules (context_holds at (table_of b contexts)) type_one p r

    -- nothing comes from a role that isn't a junior: r itself, one with a smaller number, one at R or above
    pub share_none : (r j : ℕ) → (r < j → j < role_count b → ⊥) → share rules b at p r j ≡ 0
    share_none r j h =
        ⊎_elim
        (λ e. let d = senior_down (role_count b) (table_of b hierarchy) small (accepted b ok).hierarchy r j e in
        absurd (h d.0 d.1))
        (λ e. rw e) (met_or_not (senior_to (table_of b hierarchy) r j))

    -- a role hands nothing on to itself
    pub self_none : (r : ℕ) → share rules b at p r r ≡ 0
    self_none r = share_none r r (λ l k. lt_irrefl r l)

    share_le : (r j : ℕ) → share rules b at p r j ≤ 5
    share_le r j = given_le (senior_to (table_of b hierarchy) r j) (inh_le j)

    -- role 0 is nobody's junior, so at most seven shares come together
    shares_le : (r n : ℕ) → n ≤ 8 → sum_below n (share rules b at p r) ≤ 35
    shares_le r zero h = rw (sum_none (share rules b at p r)) (omega arith)
    shares_le r (suc n) h =
        let later : ℕ → ℕ = λ i. share rules b at p r (suc i) in
        let l : sum_below n later ≤ n * 5 = sum_le later 5 n (λ i l. share_le r (suc i)) in
        let none = share_none r 0 (λ l k. absurd (not-suc-le-zero l)) in
        rw (sum_first (share rules b at p r) n, none) (omega arith)

    -- each junior counts once: its share, and those of the others
    pub weight_once : (r j : ℕ) → Chain (table_of b hierarchy) r j →
        weight rules b at r p
        ≡ own rules b at r p
        + (inh rules b at j p + sum_below (role_count b) (λ k. cond (eqb k j) 0 (share rules b at p r k)))
    unfolding weight
    weight_once r j c =
        let e = (senior_chain (role_count b) (table_of b hierarchy) small (accepted b ok).hierarchy r j).1 c in
        let d = senior_down (role_count b) (table_of b hierarchy) small (accepted b ok).hierarchy r j e in
        let q : share rules b at p r j ≡ inh rules b at j p = rw e in
        ap (λ (x : ℕ). own rules b at r p + x)
        (sum_pick (share rules b at p r) (role_count b) j d.1
        ∙ ap (λ (x : ℕ). x + sum_below (role_count b) (λ k. cond (eqb k j) 0 (share rules b at p r k))) q)

    -- a role without juniors has its own weight alone, whatever the types of its policies
    pub weight_alone : (r : ℕ) → ((j : ℕ) → Chain (table_of b hierarchy) r j → ⊥) →
        weight rules b at r p ≡ own rules b at r p
    unfolding weight
    weight_alone r h =
        rw (sum_zero (share rules b at p r) (role_count b) (λ j l. none j)) (add-zero _)
      where
        none : (j : ℕ) → share rules b at p r j ≡ 0
        none j =
            let chain = senior_chain (role_count b) (table_of b hierarchy) small (accepted b ok).hierarchy r j in
            ⊎_elim
            (λ e. absurd (h j (chain.0 e)))
            (λ e. rw e) (met_or_not (senior_to (table_of b hierarchy) r j))

    -- a weight is at most 40
    pub weight_le : (r : ℕ) → weight rules b at r p ≤ 40
    unfolding weight
    weight_le r = let o = own_le r in let s = shares_le r (role_count b) small in omega arith

    -- the weight of a role at R or above is 0
    pub weight_high : (r : ℕ) → role_count b ≤ r → weight rules b at r p ≡ 0
    unfolding weight own
    weight_high r h =
        let none = sum_zero (share rules b at p r) (role_count b) (λ j l. share_none r j (λ a c. omega arith)) in
        rw (chosen_high rules (context_holds at (table_of b contexts)) any_type p r h, none)

-- what stands at the places is at most 5, where that holds of each role and permission
placed_light : {f : ℕ → ℕ → ℕ} {v : List ℕ} → Placed f v → ((r p : ℕ) → f r p ≤ 5) → Light v
placed_light {v = v} at le i l =
    let e : 8 * (i / 8) + i % 8 ≡ i = omega arith in
    let h : get_or v (8 * (i / 8) + i % 8) 0 ≤ 5 = rw (at.place (i % 8) (i / 8) (omega arith) (omega arith)) (le _ _) in
    rw e at h

-- the weights of the policies that count in a table that passed the check
pub light_chosen : {rules : List ℕ} {s : ℕ} {a owns inhs : List ℕ} → policies_bad 8 16 a ≡ false →
    AreChosen rules s a (record_count policies a) owns inhs → Light owns × Light inhs
light_chosen {rules} {s} {a} fine are = (placed_light are.any (five any_type), placed_light are.one (five type_one))
  where
    five : (f : ℕ → Bool) (r p : ℕ) → chosen_weight rules (in_force_by s) f a (record_count policies a) r p ≤ 5
    five f r p =
        chosen_le rules (in_force_by s) f a r p 5 _ (λ i l. (policy_fine 8 16 a i fine l).weight_le)

-- the pass over A gives what the base has
module _ (b : List ℕ) (ok : refusal_of b ≡ 0) (s : Fixed) (fixed : FixedBy b s) where
  abbrev a : List ℕ
  a = table_of b policies

  abbrev holds : ℕ → Bool
  holds = context_holds s.at (table_of b contexts)

  agrees : (i : ℕ) → i < record_count policies a →
      in_force_by s.contexts (policy_context a i) ≡ holds (policy_context a i)
  unfolding context_holds
  agrees i l =
      ⊎_elim (λ k. numbered k (ne_eqb (policy_context a i) 255 (λ q. omega arith))) (λ e. rw e)
      (policy_fine 8 16 a i (policies_small b ok) l).context
    where
      numbered : policy_context a i ≤ 15 → eqb (policy_context a i) 255 ≡ false →
          in_force_by s.contexts (policy_context a i) ≡ holds (policy_context a i)
      numbered k e = rw e (rw e at (fixed.holding.number (policy_context a i) k))

  same : (rules : List ℕ) (o : ℕ → Bool) (r p : ℕ) →
      chosen_weight rules (in_force_by s.contexts) o a (record_count policies a) r p
      ≡ chosen_weight rules holds o a (record_count policies a) r p
  same rules o r p = chosen_same rules (in_force_by s.contexts) holds o a r p _ agrees

  pub chosen_by : (rules : List ℕ) {owns inhs : List ℕ} →
      AreChosen rules s.contexts a (record_count policies a) owns inhs → ChosenBy rules b s.at owns inhs
  unfolding own inh
  chosen_by rules {owns} {inhs} are =
      let own_placed : Placed (own rules b s.at) owns =
      record { place = λ r p l m. are.any.place r p l m ∙ same rules any_type r p } in
      let inh_placed : Placed (inh rules b s.at) inhs =
      record { place = λ r p l m. are.one.place r p l m ∙ same rules type_one r p } in
      record {
        own_at = own_placed;
        inh_at = inh_placed;
        own_light = placed_light own_placed (λ r p. own_le b ok rules s.at p r);
        inh_light = placed_light inh_placed (λ r p. inh_le b ok rules s.at p r);
      }

-- own weights and what juniors hand on are the weights
pub weigh : (rules b : List ℕ) (at : Context) → refusal_of b ≡ 0 → (p : ℕ) {owns inhs juniors w : List ℕ} → p < 16 →
    ChosenBy rules b at owns inhs → Juniors (table_of b hierarchy) juniors → Summed owns inhs juniors p 8 w →
    AreWeights rules b at p w
unfolding weight
weigh rules b at ok p {owns} {inhs} {juniors} there chosen below sum =
    record { role = λ r l. sum.role r l ∙ ap₂ (λ (x y : ℕ). x + y) (chosen.own_at.place r p l there) (shares r l) }
  where
    shares : (r : ℕ) → r < 8 →
        sum_below 8 (λ j. given (get_or juniors r 0) j (get_or inhs (8 * p + j) 0))
        ≡ sum_below (role_count b) (share rules b at p r)
    shares r l =
        sum_same (λ j. given (get_or juniors r 0) j (get_or inhs (8 * p + j) 0)) (share rules b at p r) 8
        (λ j m. rw (below.role r j l, chosen.inh_at.place j p m there))
        ∙ sum_tail (share rules b at p r) (role_count b) 8 (small b ok)
        (λ j m n. share_none b ok rules at p r j (λ x y. omega arith))

-- the law of seniority at the bytes: bit j of role r's byte exactly when a chain of H records leads from r to j
pub junior_bit : (b : List ℕ) (ok : refusal_of b ≡ 0) (s : Fixed) → FixedBy b s → (r j : ℕ) → r < 8 →
    (in_set (get_or s.juniors r 0) j ≡ true) ↔ Chain (table_of b hierarchy) r j
junior_bit b ok s fixed r j l =
    rw (fixed.juniors.role r j l)
    (senior_chain (role_count b) (table_of b hierarchy) (small b ok) (accepted b ok).hierarchy r j)

-- the weights handed on are at most 40
pub weights_le : (b : List ℕ) → refusal_of b ≡ 0 → (rules : List ℕ) (at : Context) (p : ℕ) (w : List ℕ) →
    AreWeights rules b at p w → (r : ℕ) → r < 8 → get_or w r 0 ≤ 40
weights_le b ok rules at p w are r l = rw (are.role r l) (weight_le b ok rules at p r)
