use Rattle.std.proofs.Common.{arith}
use Rattle.lr_field.proofs.FieldLaws.{product_by_logarithms}
use Rattle.lr_field.proofs.arithmetic.mul.Goals as goal

pub exponential-requires : goal.exponential-requires
exponential-requires c =
    let both = product_by_logarithms c.args.a c.args.b (omega arith) (omega arith) (omega arith) (omega arith) in
    omega (arith, both.0, c.logarithm.ensures, c.logarithm-2.ensures)
