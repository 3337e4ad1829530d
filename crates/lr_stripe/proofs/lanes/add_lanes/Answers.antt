use Rattle.lr_stripe.proofs.Halves.{stored}
use Rattle.lr_stripe.proofs.lanes.add_lanes.Goals as goal

pub returns : goal.returns
returns c = stored c.args.at c.args.out.now c.args.lanes c.requires c.fits-lanes.0
