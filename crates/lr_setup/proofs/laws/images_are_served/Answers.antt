use Rattle.lr_setup.proofs.Whole.{served}
use Rattle.lr_setup.proofs.laws.images_are_served.Goals as goal

pub returns : goal.returns
returns c start lines run w apart = served start lines run w (c.grown_logs_are_legal.ensures run w.logs) apart
