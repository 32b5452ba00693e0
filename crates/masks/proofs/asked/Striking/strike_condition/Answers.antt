-- What the condition is on is struck out, the rest stays.
use Rattle.std.proofs.Common.{refl, sym, ◌∙◌, arith}
use Rattle.masks.proofs.Conditions.{attribute_three, on_entries, on_sums, on_numbers, on_set}
use Rattle.masks.proofs.asked.Striking.strike_condition.Goals as goal

pub returns-in-0 : goal.returns-in-0
returns-in-0 c =
    let (attribute, operator, value) = c.condition-attribute.ensures.at in
    record {
      same = refl;
      all =
          on_entries c.args.k.now c.args.i c.args.j (sym attribute ∙ c.in-0.is)
          (rw (c.args.self.now.asked.room.entries, operator, value) at c.strike_unmet.ensures) refl refl;
    }

pub returns-in-1 : goal.returns-in-1
returns-in-1 c =
    let (attribute, operator, value) = c.condition-attribute.ensures.at in
    record {
      same = refl;
      all =
          on_sums c.args.k.now c.args.i c.args.j (sym attribute ∙ c.in-1.is)
          (rw (operator, value) at c.strike_unmet-in-1.ensures);
    }

pub returns-in-2 : goal.returns-in-2
returns-in-2 c =
    let (attribute, operator, value) = c.condition-attribute.ensures.at in
    record {
      same = refl;
      all =
          on_numbers c.args.k.now c.args.i c.args.j (sym attribute ∙ c.in-2.is)
          (rw (c.args.self.now.asked.room.numbers, operator, value) at c.strike_unmet-in-2.ensures) refl refl;
    }

pub returns-in_default : goal.returns-in_default
returns-in_default c =
    let (attribute, operator, value) = c.condition-attribute.ensures.at in
    let most = c.condition-attribute.ensures.kept.0 in
    let third = attribute_three most (λ q. omega arith) (λ q. omega arith) (λ q. omega arith) in
    record {
      same = refl;
      all =
          on_set c.args.k.now c.args.i c.args.j (sym attribute ∙ third) (rw value at c.strike_roles.ensures) refl refl;
    }
