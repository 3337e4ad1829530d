use Rattle.std.proofs.Common.{arith}
use Rattle.lr_world.specs.World.{seen}
use Rattle.lr_world.proofs.Found.{found}
use Rattle.lr_world.proofs.world.World.place_of.Goals as goal

pub unreachable-requires : goal.unreachable-requires
unreachable-requires g c = found (seen c.args.self.now) c.args.number c.requires c.loop-at.at (omega arith) c.loop-at.invariant
