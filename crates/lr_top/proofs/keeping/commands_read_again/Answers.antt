use Rattle.lr_top.proofs.Commanding.{reads_again}
use Rattle.lr_top.proofs.keeping.commands_read_again.Goals as goal

pub returns : goal.returns
returns g c = reads_again g.O.Origin.objects g.O.Origin.faults c.stores_open_again.ensures.starts c.images_are_read_again.ensures
