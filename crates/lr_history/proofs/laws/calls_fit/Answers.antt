use Rattle.lr_history.proofs.Fits.{walks_fit, next_fits}
use Rattle.lr_history.proofs.Out.{paths_tell, claims_told, plans_told, fit_granted, fit_planned}
use Rattle.lr_history.proofs.laws.calls_fit.Goals as goal

pub returns : goal.returns
returns c = record { walks = walks_fit; next = next_fits; paths = paths_tell; told = claims_told; planned = plans_told; granted = fit_granted; made = fit_planned }
