use Rattle.lr_loader.proofs.Determined.{determined}
use Rattle.lr_loader.proofs.laws.loads_are_determined.Goals as goal

pub returns : goal.returns
returns c = determined
