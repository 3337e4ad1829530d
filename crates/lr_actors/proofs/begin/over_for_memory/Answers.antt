use Rattle.std.proofs.Common.{inr, refl}
use Rattle.lr_actors.proofs.begin.over_for_memory.Goals as goal

pub returns : goal.returns
returns c = inr (refl, refl)
