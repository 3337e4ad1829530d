use Rattle.std.specs.Arc.{arc_value}
use Rattle.lr_object.proofs.Found.{map-remove}
use Rattle.lr_nodes.proofs.list.take_out.Goals as goal

pub returns-clause-stripes : goal.returns-clause-stripes
returns-clause-stripes c = rw c.remove-gone.ensures.items (map-remove arc_value c.args.stripes.now.items c.args.at)
