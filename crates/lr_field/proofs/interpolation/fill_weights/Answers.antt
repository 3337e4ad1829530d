use Rattle.std.proofs.Common.{take, take_all, subst, arith}
use Rattle.lr_field.specs.Field.{inverse}
use Rattle.lr_field.specs.Polynomial.{GivesValue}
use Rattle.lr_field.proofs.FieldLaws.{inverse_law}
use Rattle.lr_field.proofs.Polynomials.{weights_more, GivesValue_none}
use Rattle.lr_field.proofs.interpolation.fill_weights.Goals as goal

pub loop-k-init : goal.loop-k-init
loop-k-init c = (GivesValue_none c.args.at, tt)

pub loop-k-preserved : goal.loop-k-preserved
loop-k-preserved c =
    let turned = weights_more inverse inverse_law c.args.at c.loop-k.k c.scale-last.result c.args.points.now c.loop-k.weights c.scale-last.new.weights
    (omega arith) (omega arith) (omega arith) (λ j lj. omega (arith, c.type_inv.points j)) c.requires.distinct c.loop-k.invariant.1 c.loop-k.invariant.0 c.scale-last.ensures.weights c.scale-last.ensures.last in
    (turned.gives, turned.bytes)

pub returns : goal.returns
returns c =
    let e = take_all c.loop-k.k c.loop-k.weights (omega arith) in
    let f = take_all c.loop-k.k c.args.points.now (omega arith) in
    subst (λ l. GivesValue l c.args.points.now c.args.at) e (subst (λ l. GivesValue (take c.loop-k.k c.loop-k.weights) l c.args.at) f c.loop-k.invariant.0)
