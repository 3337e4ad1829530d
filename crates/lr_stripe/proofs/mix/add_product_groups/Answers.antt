use Rattle.std.proofs.Common.{arith}
use Rattle.lr_field.specs.Field.{product}
use Rattle.lr_stripe.proofs.Halves.{group_more}
use Rattle.lr_stripe.proofs.mix.add_product_groups.Goals as goal

pub loop-group-preserved : goal.loop-group-preserved
loop-group-preserved c =
    group_more (product c.args.weight) c.args.part.now c.args.out.now c.loop-group.out c.add_lanes.new.out _ c.loop-group.group c.requires (omega arith) c.loop-group.invariant
    (c.times.ensures c.args.weight c.products_of-products.ensures) c.add_lanes.ensures
