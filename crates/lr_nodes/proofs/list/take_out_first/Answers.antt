use Rattle.std.proofs.Common.{map, sym}
use Rattle.std.specs.Arc.{arc_value}
use Rattle.lr_nodes.specs.Stripes.{is_at}
use Rattle.lr_nodes.proofs.Lists.{without_first-none}
use Rattle.lr_nodes.proofs.list.take_out_first.Goals as goal

pub returns-in-None-clause-stripes : goal.returns-in-None-clause-stripes
returns-in-None-clause-stripes c =
    sym (without_first-none (is_at c.args.name.now c.args.index) (map arc_value c.args.stripes.now.items) (rw c.as_slice.ensures.value at c.in-None.ensures.found))
