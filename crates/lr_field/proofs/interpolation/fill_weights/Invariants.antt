use Rattle.std.proofs.Common.{take}
use Rattle.lr_field.specs.Polynomial.{GivesValue, AreBytes}
use Rattle.lr_field.proofs.interpolation.fill_weights.Given as goal

abbrev pub invariant-loop-k : goal.invariant-loop-k
invariant-loop-k l = GivesValue (take l.k l.weights) (take l.k l.points) l.at × AreBytes (take l.k l.weights)
