use Rattle.std.specs.Arc.{arc_value}
use Rattle.lr_nodes.proofs.Lists.{map-set}
use Rattle.lr_nodes.proofs.list.put_at.Goals as goal

pub returns-clause-stripes : goal.returns-clause-stripes
returns-clause-stripes c = map-set arc_value c.args.stripes.now.items c.args.at c.args.stripe
