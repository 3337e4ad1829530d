use Rattle.lr_script.proofs.Within.{scripts_within}
use Rattle.lr_script.proofs.laws.scripts_are_within.Goals as goal

pub returns : goal.returns
returns c = scripts_within
