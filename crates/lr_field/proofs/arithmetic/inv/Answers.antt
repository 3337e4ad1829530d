use Rattle.std.proofs.Common.{sym, arith}
use Rattle.lr_field.proofs.Computed.{inverse_is}
use Rattle.lr_field.proofs.FieldLaws.{product_by_inverse}
use Rattle.lr_field.proofs.arithmetic.inv.Goals as goal

pub returns-clause-value : goal.returns-clause-value
returns-clause-value c = sym (inverse_is c.args.a (omega arith))

pub returns-clause-one : goal.returns-clause-one
returns-clause-one c = λ some. product_by_inverse c.args.a (omega arith) (omega arith)
