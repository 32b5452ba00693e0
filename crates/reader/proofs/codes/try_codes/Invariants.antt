use Rattle.std.proofs.Common.{ℕ, ◌≡◌}
use Rattle.folds.proofs.Searches.{NoneYet}
use Rattle.reader.specs.Codes.{parameter_ok}
use Rattle.reader.proofs.Parameter.{rest_of}
use Rattle.reader.proofs.codes.try_codes.Given as goal

-- role r is next; of no fewer roles is the parameter a product
pub record Turn (x roles rest count r : ℕ) : Type 0 where
  pub counted : count ≡ r
  pub upto : rest ≡ rest_of r x
  pub yet : NoneYet roles (λ n. parameter_ok n x) r

abbrev pub invariant-loop-r : goal.invariant-loop-r
invariant-loop-r l = Turn l.x l.roles l.rest l.count l.r
