use Rattle.lr_prepare.proofs.Fits.{fits}
use Rattle.lr_prepare.proofs.laws.scripts_fit.Goals as goal

pub returns : goal.returns
returns c = fits
