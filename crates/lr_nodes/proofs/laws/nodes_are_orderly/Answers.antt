use Rattle.lr_nodes.proofs.Ordered.{nodes_are_orderly}
use Rattle.lr_nodes.proofs.laws.nodes_are_orderly.Goals as goal

pub returns : goal.returns
returns c = nodes_are_orderly
