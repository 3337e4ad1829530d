use Rattle.lr_world.specs.World.{seen_of}
use Rattle.lr_world.proofs.Begun.{begun}
use Rattle.lr_world.proofs.world.World.new.Goals as goal

pub returns-clause-is : goal.returns-clause-is
returns-clause-is g c = λ context hosts may. begun c.sessions_are_ones_own.ensures.own context hosts (seen_of c.args.parts c.args.actors) may
