-- Parameters worked out (request Six): the refusal, and how many codes were tried.
use Rattle.std.specs.Prelude.{ℕ, ◌≡◌}
use Rattle.reader.specs.declared.Answer.{Answer}
use Rattle.reader.specs.Codes.{parameter_answer}

abbrev pub passed : ℕ → Answer
passed tried = record { refusal = 0; count = tried }

abbrev pub refused : ℕ → Answer
refused tried = record { refusal = 5; count = tried }

pub record Parameters : Type 0 where
  -- the small shop's three roles: its users', then those of marked case 9
  pub manager : parameter_answer 3 3 ≡ passed 1
  pub buyer : parameter_answer 3 5 ≡ passed 2
  pub clerk : parameter_answer 3 7 ≡ passed 3
  pub no_role : parameter_answer 3 1 ≡ passed 0
  pub all_three : parameter_answer 3 105 ≡ passed 3
  pub zero : parameter_answer 3 0 ≡ refused 3
  pub square : parameter_answer 3 9 ≡ refused 3
  pub not_there : parameter_answer 3 11 ≡ refused 3
  -- eight roles, one by one
  pub role_0 : parameter_answer 8 3 ≡ passed 1
  pub role_1 : parameter_answer 8 5 ≡ passed 2
  pub role_2 : parameter_answer 8 7 ≡ passed 3
  pub role_3 : parameter_answer 8 11 ≡ passed 4
  pub role_4 : parameter_answer 8 13 ≡ passed 5
  pub role_5 : parameter_answer 8 17 ≡ passed 6
  pub role_6 : parameter_answer 8 19 ≡ passed 7
  pub role_7 : parameter_answer 8 23 ≡ passed 8
  -- the first two, the first and the last, all, and the product of all but the last times 2
  pub first_two : parameter_answer 8 15 ≡ passed 2
  pub first_and_last : parameter_answer 8 69 ≡ passed 8
  pub all_eight : parameter_answer 8 111546435 ≡ passed 8
  pub left_2 : parameter_answer 8 9699690 ≡ refused 8
  -- no roles, and more than eight
  pub of_none : parameter_answer 0 1 ≡ passed 0
  pub of_none_3 : parameter_answer 0 3 ≡ refused 0
  pub nine : parameter_answer 9 23 ≡ passed 8
  pub nine_29 : parameter_answer 9 29 ≡ refused 8
  pub not_cut : parameter_answer 256 5 ≡ passed 2
