use Rattle.lr_device.proofs.OnesOwn.{ones_own, planned_is}
use Rattle.lr_device.proofs.laws.plans_are_ones_own.Goals as goal

pub returns : goal.returns
returns c = record { own = ones_own; machine = planned_is }
