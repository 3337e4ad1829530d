use Rattle.std.specs.Arc.{arc_value}
use Rattle.lr_manifest.specs.Chunk.{is_named}
use Rattle.lr_object.proofs.Found.{finds_in_map}
use Rattle.lr_cache.proofs.places.place_of.Goals as goal

pub returns : goal.returns
returns c = rw c.position_of_name.ensures (finds_in_map (is_named c.args.name.now) arc_value c.args.chunks.now)
