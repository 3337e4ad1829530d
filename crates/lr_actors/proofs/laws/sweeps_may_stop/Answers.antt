use Rattle.lr_actors.proofs.Stopped.{may_stop}
use Rattle.lr_actors.proofs.laws.sweeps_may_stop.Goals as goal

pub returns : goal.returns
returns c = may_stop
