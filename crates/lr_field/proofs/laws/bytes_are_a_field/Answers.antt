use Rattle.lr_field.proofs.Fixed.{is_field}
use Rattle.lr_field.proofs.laws.bytes_are_a_field.Goals as goal

pub returns : goal.returns
returns c = is_field
