use Rattle.lr_loader.proofs.Rebuilding.{good_is}
use Rattle.lr_loader.proofs.stage.is_good.Goals as goal

pub returns : goal.returns
returns c = good_is c.args.name.now c.args.index c.args.stripe.now c.good.result c.good.ensures
