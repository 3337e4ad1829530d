use Rattle.lr_field.proofs.Fixed.{any_values}
use Rattle.lr_field.proofs.laws.any_values_are_on_polynomial.Goals as goal

pub returns : goal.returns
returns c = any_values
