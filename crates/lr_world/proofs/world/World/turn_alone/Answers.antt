use Rattle.lr_world.specs.World.{seen}
use Rattle.lr_world.proofs.Alone.{alone_falls, free_turn, still_alone}
use Rattle.lr_world.proofs.world.World.turn_alone.Goals as goal

pub returns-clause-turned : goal.returns-clause-turned
returns-clause-turned g c =
    let t = c.turn.ensures.turned in
    (t.0, t.1, t.2, free_turn c.laws.ensures g.O.Origin.objects g.O.Origin.faults c.requires.world.0 c.requires.world.1 (seen c.args.self.now) (seen c.turn.new.self) c.args.at t.0 c.requires.world.2 t.1 c.requires.alone t.3)

pub returns-clause-falls : goal.returns-clause-falls
returns-clause-falls g c = alone_falls c.turn.result (seen c.args.self.now) (seen c.turn.new.self) c.args.at c.turn.ensures.turned.0 c.turn.ensures.turned.1 c.requires.alone c.turn.ensures.goes

pub returns-clause-alone : goal.returns-clause-alone
returns-clause-alone g c =
    let t = c.turn.ensures.turned in
    still_alone c.laws.ensures g.O.Origin.objects g.O.Origin.faults c.requires.world.0 c.requires.world.1 (seen c.args.self.now) (seen c.turn.new.self) c.args.at t.0 c.requires.world.2 t.1 c.requires.alone t.3
