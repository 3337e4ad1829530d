use Rattle.std.proofs.Common.{refl}
use Rattle.lr_world.specs.World.{seen}
use Rattle.std.specs.Prelude.{⊤}
use Rattle.lr_world.proofs.Kept.{keeps_by, steps_cast, steps_others}
use Rattle.lr_world.proofs.Falls.{goes}
use Rattle.lr_world.proofs.world.World.turn.Goals as goal

pub returns-clause-is : goal.returns-clause-is
returns-clause-is g c =
    λ context hosts is. keeps_by c.laws.ensures g.O.Origin.objects g.O.Origin.faults (λ reply. ⊤) context hosts (seen c.args.self.now) (seen c.take_turn.new.self) c.args.at c.take_turn.ensures.0 c.take_turn.ensures.0.now refl is c.take_turn.ensures.1 c.take_turn.ensures.3

pub returns-clause-goes : goal.returns-clause-goes
returns-clause-goes g c =
    goes c.laws.ensures g.O.Origin.objects g.O.Origin.faults c.requires.world.0 c.requires.world.1 (seen c.args.self.now) (seen c.take_turn.new.self) c.args.at c.take_turn.result c.requires.world.2 c.take_turn.ensures

pub returns-clause-cast : goal.returns-clause-cast
returns-clause-cast g c =
    steps_cast g.O.Origin.objects g.O.Origin.faults (λ reply. ⊤) (seen c.args.self.now) (seen c.take_turn.new.self) c.args.at c.take_turn.ensures.0 c.take_turn.ensures.0.now c.take_turn.ensures.1 c.take_turn.ensures.3

pub returns-clause-others : goal.returns-clause-others
returns-clause-others g c =
    steps_others g.O.Origin.objects g.O.Origin.faults (λ reply. ⊤) (seen c.args.self.now) (seen c.take_turn.new.self) c.args.at c.take_turn.ensures.0 c.take_turn.ensures.0.now c.take_turn.ensures.3
