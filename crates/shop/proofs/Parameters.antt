-- The worked parameters: by computing both sides.
use mathlib.Core.Path.{refl}
use Rattle.reader.specs.Codes.{code_product, parameter_ok, roles_of_product, highest_below}
use Rattle.reader.specs.Codes.{codes_tried, parameter_answer}
use Rattle.shop.specs.Parameters.{Parameters}

pub parameters : Parameters
unfolding parameter_ok code_product roles_of_product highest_below codes_tried parameter_answer
parameters = record {
  manager = refl;
  buyer = refl;
  clerk = refl;
  no_role = refl;
  all_three = refl;
  zero = refl;
  square = refl;
  not_there = refl;
  role_0 = refl;
  role_1 = refl;
  role_2 = refl;
  role_3 = refl;
  role_4 = refl;
  role_5 = refl;
  role_6 = refl;
  role_7 = refl;
  first_two = refl;
  first_and_last = refl;
  all_eight = refl;
  left_2 = refl;
  of_none = refl;
  of_none_3 = refl;
  nine = refl;
  nine_29 = refl;
  not_cut = refl;
}
