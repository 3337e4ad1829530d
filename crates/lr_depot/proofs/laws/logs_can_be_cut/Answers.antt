use Rattle.lr_depot.proofs.Closing.{led_cut}
use Rattle.lr_depot.proofs.laws.logs_can_be_cut.Goals as goal

pub returns : goal.returns
returns c = led_cut
