use Rattle.lr_world.specs.World.{seen, cast_of, numbers_of}
use Rattle.lr_world.proofs.Scheduled.{pairs_alone, pairs_rounds}
use Rattle.lr_world.proofs.world.World.pairs_then.Goals as goal

pub returns-then-not-rounds-clause-ran : goal.returns-then-not-rounds-clause-ran
returns-then-not-rounds-clause-ran g c =
    pairs_alone g.O.Origin.objects g.O.Origin.faults (numbers_of (cast_of (seen c.args.self.now))) c.args.pairs.now c.args.rounds (seen c.args.self.now) (seen c.pairs.new.self) c.if-not-rounds.true c.pairs.ensures.ran

pub returns-clause-ran : goal.returns-clause-ran
returns-clause-ran g c =
    pairs_rounds g.O.Origin.objects g.O.Origin.faults c.args.pairs.now c.args.rounds (seen c.args.self.now) (seen c.pairs.new.self) (seen c.rounds.new.self) c.if-not-rounds.false c.pairs.ensures.ran c.pairs.ensures.cast c.rounds.ensures.ran
