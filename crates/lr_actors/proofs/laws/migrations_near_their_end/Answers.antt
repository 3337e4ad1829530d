use Rattle.lr_actors.proofs.Bounds.{migrations_near}
use Rattle.lr_actors.proofs.laws.migrations_near_their_end.Goals as goal

pub returns : goal.returns
returns c = migrations_near
