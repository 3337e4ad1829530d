use Rattle.lr_convergent.proofs.Ranges.{range_text}
use Rattle.lr_convergent.proofs.laws.ranges_stand_alone.Goals as goal

pub returns : goal.returns
returns c = range_text
