use Rattle.std.proofs.Common.{arith}
use Rattle.lr_stripe.proofs.Halves.{group_more, as_it_is}
use Rattle.lr_stripe.proofs.mix.add_groups.Goals as goal

pub loop-group-preserved : goal.loop-group-preserved
loop-group-preserved c =
    group_more (λ b. b) c.args.part.now c.args.out.now c.loop-group.out c.add_lanes.new.out _ c.loop-group.group c.requires (omega arith) c.loop-group.invariant (as_it_is _) c.add_lanes.ensures
