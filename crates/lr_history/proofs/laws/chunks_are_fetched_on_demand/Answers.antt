use Rattle.lr_history.proofs.Demanded.{fetches_demanded}
use Rattle.lr_history.proofs.Naming.{loads_demanded}
use Rattle.lr_history.proofs.laws.chunks_are_fetched_on_demand.Goals as goal

pub returns : goal.returns
returns c = record { loads = loads_demanded; demanded = fetches_demanded }
