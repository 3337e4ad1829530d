use Rattle.lr_replies.proofs.Leases.{leases_out}
use Rattle.lr_replies.proofs.laws.leases_stay_out.Goals as goal

pub returns : goal.returns
returns c = leases_out
