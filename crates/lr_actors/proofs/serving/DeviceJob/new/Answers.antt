use Rattle.lr_actors.proofs.Served.{starts}
use Rattle.lr_actors.proofs.serving.DeviceJob.new.Goals as goal

pub returns-clause-stands : goal.returns-clause-stands
returns-clause-stands c = starts _ _ c.to_begin-turn.ensures.need
