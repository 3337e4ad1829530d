use Rattle.lr_depot.proofs.Ready.{ready_fits}
use Rattle.lr_depot.proofs.kernel.Kernel.open_image.Goals as goal

pub handles-requires-clause-fits : goal.handles-requires-clause-fits
handles-requires-clause-fits c = ready_fits c.args.self.now c.requires.ready
