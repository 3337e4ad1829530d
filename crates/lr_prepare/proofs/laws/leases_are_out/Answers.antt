use Rattle.lr_prepare.proofs.Leases.{leases_out}
use Rattle.lr_prepare.proofs.laws.leases_are_out.Goals as goal

pub returns : goal.returns
returns c = leases_out c.leases_last.ensures.opened c.leases_last.ensures.out
