use Rattle.lr_field.proofs.Fixed.{values_fix}
use Rattle.lr_field.proofs.laws.values_fix_polynomial.Goals as goal

pub returns : goal.returns
returns c = values_fix
