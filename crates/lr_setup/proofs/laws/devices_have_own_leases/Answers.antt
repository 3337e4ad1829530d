use Rattle.lr_setup.proofs.Leases.{own_leases}
use Rattle.lr_setup.proofs.laws.devices_have_own_leases.Goals as goal

pub returns : goal.returns
returns c = own_leases
