use Rattle.std.specs.Arc.{arc_value}
use Rattle.lr_object.proofs.Found.{finds_in_map}
use Rattle.lr_nodes.specs.Stripes.{is_at}
use Rattle.lr_nodes.proofs.Lists.{first_place}
use Rattle.lr_nodes.proofs.list.place_of.Goals as goal

pub returns : goal.returns
returns c = record {
  found = rw c.position_of.ensures (finds_in_map (is_at c.args.name.now c.args.index) arc_value c.args.stripes.now);
  first = rw c.position_of.ensures (first_place (is_at c.args.name.now c.args.index) arc_value c.args.stripes.now);
}
