use Rattle.lr_actors.proofs.Forgings.{starts}
use Rattle.lr_actors.proofs.forge.ForgeJob.new.Goals as goal

pub returns-clause-stands : goal.returns-clause-stands
returns-clause-stands c = starts _ _ c.to_begin-turn.ensures.begins
